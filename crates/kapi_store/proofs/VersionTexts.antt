-- The text of a tree is one text around its version, whatever that is.
use Rattle.std.proofs.Common.{◌≡◌, ◌∙◌, ℕ, List, [], ◌∷◌, ◌++◌, Bool, true, false, Some, None, codes, refl, sym, ap, append_assoc}
use Rattle.std.proofs.lemmas.Map.Text.{is_eq-slice_cmp}
use Rattle.std.proofs.lemmas.Slice.Eq.{bytes_eq-Decides}
use Rattle.std.specs.Cmp.Lexicographic.{slice_cmp}
use Rattle.std.specs.Fmt.{decimal}
use Rattle.std.specs.Option.{option_and_then}
use Rattle.std.specs.Ordering.{nat_cmp, match_ordering, is_eq}
use Rattle.std.specs.declared.cmp.Ordering.TheVariants.{Less, Equal, Greater}
use Rattle.json.specs.Print.{escape_byte, quoted}
use Rattle.serde_json.specs.Data.{Data, null, boolean, number, string, array, object, Members, no_members, member}
use Rattle.serde_json.specs.Find.{as_str, get_member}
use Rattle.serde_json.specs.Written.{comma_if, compact_text, members_text}
use Rattle.kapi_object.proofs.SetTexts.{text_set_again}
use Rattle.kapi_object.proofs.Ordered.{key_first, none_found, others_in_order, precedes_too}
use Rattle.kapi_object.specs.Order.{in_order, is_ordered, precedes}
use Rattle.kapi_object.specs.Tree.{in_metadata}
use Rattle.kapi_store.proofs.Cuts.{escaped_decimal, near_around}
use Rattle.kapi_store.proofs.Labelled.{turned}
use Rattle.kapi_store.proofs.Versions.{given, has_metadata, inner_order, text_there, untouched, version_alone, versioned_again}
use Rattle.kapi_store.specs.Gone.{at_version, changed_at, with_changed}
use Rattle.kapi_store.specs.Private.Cut.{is_near, version_text}
use Rattle.kapi_store.specs.UidAndVersion.{with_stamps_of, replaced_tree}

-- texts that are one text around what differs
pub record Around (text between : ℕ → List ℕ) : Type 0 where
  pub before : List ℕ
  pub behind : List ℕ
  pub cut : (n : ℕ) → text n ≡ before ++ (between n ++ behind)

regroup : (c q t x y : List ℕ) → c ++ (q ++ 58 ∷ (t ++ (x ++ y))) ≡ (c ++ (q ++ 58 ∷ (t ++ x))) ++ y
regroup c q t x y = simp append_assoc

-- the member of the key is here
cut_here : (later : Bool) (k l : List ℕ) (f : ℕ → Data → Data) (old e : Data) (ms : Members) → slice_cmp nat_cmp k l ≡ Equal → Some e ≡ Some old → in_order (member l e ms) ≡ true
    → Around (λ n. members_text later (changed_at k (f n) (member l e ms))) (λ n. quoted k ++ 58 ∷ compact_text (f n old))
cut_here later k l f old e ms is at h =
    let same : k ≡ l = (bytes_eq-Decides k l).0 (sym (is_eq-slice_cmp k l) ∙ ap is_eq is) in
    let first : precedes k ms ≡ true = rw same (key_first l e ms h) in
    let value : old ≡ e = sym (given e old at) in
    record {
      before = comma_if later;
      behind = members_text true ms;
      cut = λ n. rw (turned k l Equal is, untouched k (f n) ms first, value, same) (ap (λ s. comma_if later ++ s) (sym (append_assoc (quoted l) (58 ∷ compact_text (f n e)) (members_text true ms))));
    }

-- the member of the key is behind this one
cut_behind : (later : Bool) (k l : List ℕ) (f : ℕ → Data → Data) (between : ℕ → List ℕ) (e : Data) (ms : Members) → slice_cmp nat_cmp k l ≡ Greater
    → Around (λ n. members_text true (changed_at k (f n) ms)) between → Around (λ n. members_text later (changed_at k (f n) (member l e ms))) between
cut_behind later k l f between e ms is rest = record {
  before = comma_if later ++ (quoted l ++ 58 ∷ (compact_text e ++ rest.before));
  behind = rest.behind;
  cut = λ n. rw (turned k l Greater is)
      (ap (λ s. comma_if later ++ (quoted l ++ 58 ∷ (compact_text e ++ s))) (rest.cut n) ∙ regroup (comma_if later) (quoted l) (compact_text e) rest.before (between n ++ rest.behind));
}

cut_members : (later : Bool) (k : List ℕ) (f : ℕ → Data → Data) (old : Data) (ms : Members) → in_order ms ≡ true → get_member k ms ≡ Some old
    → Around (λ n. members_text later (changed_at k (f n) ms)) (λ n. quoted k ++ 58 ∷ compact_text (f n old))
cut_members later k f old no_members h there = absurd (cc there)
cut_members later k f old (member l e ms) h there =
    elim (slice_cmp nat_cmp k l) as (λ o. slice_cmp nat_cmp k l ≡ o → match_ordering o (get_member k ms) (Some e) (get_member k ms) ≡ Some old
    → Around (λ n. members_text later (changed_at k (f n) (member l e ms))) (λ n. quoted k ++ 58 ∷ compact_text (f n old))) [
      | Less ↦ λ is at. absurd (let none : get_member k ms ≡ None = none_found k ms (precedes_too k l ms is (key_first l e ms h)) in cc (at, none))
      | Equal ↦ λ is at. cut_here later k l f old e ms is at h
      | Greater ↦ λ is at. cut_behind later k l f (λ n. quoted k ++ 58 ∷ compact_text (f n old)) e ms is (cut_members true k f old ms (others_in_order l e ms h) at)
    ] refl there

-- ---- the version in the metadata

version_quoted : (n : ℕ) → quoted (codes "resourceVersion") ++ 58 ∷ quoted (decimal n) ≡ version_text n
unfolding escape_byte
version_quoted n = ap (λ s. codes "\"resourceVersion\":\"" ++ (s ++ codes "\"")) (escaped_decimal n)

nested : (a q x w y z : List ℕ) → a ++ ((q ++ 58 ∷ 123 ∷ (x ++ (w ++ y))) ++ z) ≡ (a ++ (q ++ 58 ∷ 123 ∷ x)) ++ (w ++ (y ++ z))
nested a q x w y z = simp append_assoc

pub version_cut : (v : List ℕ) (d : Data) → is_ordered d ≡ true → option_and_then as_str (in_metadata (codes "resourceVersion") d) ≡ Some v → Around (λ n. compact_text (at_version n d)) version_text
version_cut v (object ms) h there =
    let m = has_metadata (codes "resourceVersion") (string v) ms (text_there (in_metadata (codes "resourceVersion") (object ms)) v there) in
    let f : ℕ → Data → Data = λ n e. string (decimal n) in
    let inner = cut_members false (codes "resourceVersion") f (string v) m.metadata (inner_order (codes "metadata") ms m.metadata h m.there) m.inside in
    let outer = cut_members false (codes "metadata") (λ n. with_changed (codes "resourceVersion") (f n)) (object m.metadata) ms h m.there in
    record {
      before = 123 ∷ (outer.before ++ (quoted (codes "metadata") ++ 58 ∷ 123 ∷ inner.before));
      behind = inner.behind ++ outer.behind;
      cut = λ n. ap (λ s. 123 ∷ s) (outer.cut n ∙ ap (λ s. outer.before ++ ((quoted (codes "metadata") ++ 58 ∷ 123 ∷ s) ++ outer.behind)) (inner.cut n ∙ ap (λ s. inner.before ++ (s ++ inner.behind)) (version_quoted n))
          ∙ nested outer.before (quoted (codes "metadata")) inner.before (version_text n) inner.behind outer.behind);
    }
version_cut v null h there = absurd (cc there)
version_cut v (boolean b) h there = absurd (cc there)
version_cut v (number n) h there = absurd (cc there)
version_cut v (string s) h there = absurd (cc there)
version_cut v (array ds) h there = absurd (cc there)

-- an object is at the version that it has
pub version_stays : (n : ℕ) (d : Data) → is_ordered d ≡ true → option_and_then as_str (in_metadata (codes "resourceVersion") d) ≡ Some (decimal n) → at_version n d ≡ d
version_stays n d h there =
    sym (versioned_again (decimal n) n d h there) ∙ text_set_again (codes "resourceVersion") (decimal n) d h (text_there (in_metadata (codes "resourceVersion") d) (decimal n) there)

-- ---- another version in the text

-- where the version stands once in the text, the text around it is that of any other
pub version_spliced : (m n : ℕ) (d : Data) (before behind : List ℕ) → is_ordered d ≡ true → option_and_then as_str (in_metadata (codes "resourceVersion") d) ≡ Some (decimal m)
    → ((a b : List ℕ) → compact_text d ≡ a ++ (version_text m ++ b) → (before ≡ a) × (behind ≡ b)) → before ++ (version_text n ++ behind) ≡ compact_text (at_version n d)
version_spliced m n d before behind h there once =
    let around = version_cut (decimal m) d h there in
    let now = once around.before around.behind (ap compact_text (sym (version_stays m d h there)) ∙ around.cut m) in
    rw (now.0, now.1) (sym (around.cut n))

numbered : (a k d b : List ℕ) → a ++ ((k ++ (d ++ 34 ∷ [])) ++ b) ≡ (a ++ k) ++ (d ++ 34 ∷ b)
numbered a k d b = simp append_assoc

-- texts of one object at two versions are near
pub versions_near : (v : List ℕ) (m n : ℕ) (d : Data) → is_ordered d ≡ true → option_and_then as_str (in_metadata (codes "resourceVersion") d) ≡ Some v
    → is_near (compact_text (at_version m d)) (compact_text (at_version n d)) ≡ true
versions_near v m n d h there =
    let around = version_cut v d h there in
    let k : List ℕ = codes "\"resourceVersion\":\"" in
    let left : compact_text (at_version m d) ≡ (around.before ++ k) ++ (decimal m ++ 34 ∷ around.behind) = around.cut m ∙ numbered around.before k (decimal m) around.behind in
    let right : compact_text (at_version n d) ≡ (around.before ++ k) ++ (decimal n ++ 34 ∷ around.behind) = around.cut n ∙ numbered around.before k (decimal n) around.behind in
    rw (left, right) (near_around (around.before ++ k) m n 34 around.behind refl)

-- where a replacement leaves an object as it was, but for its version, its text is near the old one
pub replaced_near : (m n : ℕ) (old tree : Data) → is_ordered old ≡ true → option_and_then as_str (in_metadata (codes "resourceVersion") old) ≡ Some (decimal m)
    → with_stamps_of old tree ≡ old → is_near (compact_text (replaced_tree n old tree)) (compact_text old) ≡ true
replaced_near m n old tree h there same =
    let new : replaced_tree n old tree ≡ at_version n old = sym (version_alone old tree old n h (sym same)) ∙ versioned_again (decimal m) n old h there in
    ap (λ d. is_near (compact_text d) (compact_text old)) new ∙ ap (λ d. is_near (compact_text (at_version n old)) (compact_text d)) (sym (version_stays m old h there)) ∙ versions_near (decimal m) n m old h there
