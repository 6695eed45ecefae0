-- An object that has its unique id and a version needs no other stamp than a new version.
use Rattle.std.proofs.Common.{◌≡◌, ◌∙◌, ℕ, List, [], true, ◌&&◌, if◌then◌else◌, Option, Some, None, bytes_eq, codes, refl, sym, ap, subst}
use Rattle.std.proofs.lemmas.Map.Text.{is_eq-slice_cmp}
use Rattle.std.proofs.lemmas.Slice.Eq.{bytes_eq-Decides}
use Rattle.std.specs.Cmp.{first_so, second_so}
use Rattle.std.specs.Cmp.Lexicographic.{slice_cmp}
use Rattle.std.specs.Fmt.{decimal}
use Rattle.std.specs.Option.{option_and_then, unwrap_or}
use Rattle.std.specs.Ordering.{nat_cmp, match_ordering, is_eq, is_lt}
use Rattle.std.specs.declared.cmp.Ordering.TheVariants.{Less, Equal, Greater}
use Rattle.serde_json.specs.Data.{Data, null, boolean, number, string, array, object, Members, no_members, member, put}
use Rattle.serde_json.specs.Find.{as_str, get, get_member}
use Rattle.kapi_object.proofs.SetTexts.{text_set_again}
use Rattle.kapi_object.proofs.Ordered.{is_less, key_first, none_found, others_in_order, precedes_too}
use Rattle.kapi_object.specs.Object.{stamped_tree}
use Rattle.kapi_object.specs.Order.{in_order, is_ordered, precedes}
use Rattle.kapi_object.specs.Tree.{in_metadata, members_or_none, with_text}
use Rattle.kapi_store.proofs.Labelled.{turned}
use Rattle.kapi_store.proofs.Stamped.{old_uid}
use Rattle.kapi_store.specs.Gone.{at_version, changed_at, with_changed}
use Rattle.kapi_store.specs.UidAndVersion.{uid_in, with_stamps_of, replaced_tree}

pub given : (a b : Data) → Some a ≡ Some b → a ≡ b
given a b is = cc is

-- a key that comes before all of the members has no value among them to change
pub untouched : (k : List ℕ) (f : Data → Data) (ms : Members) → precedes k ms ≡ true → changed_at k f ms ≡ ms
untouched k f no_members p = refl
untouched k f (member l d ms) p =
    let less : slice_cmp nat_cmp k l ≡ Less = is_less (slice_cmp nat_cmp k l) (first_so (is_lt (slice_cmp nat_cmp k l)) (precedes k ms) p) in
    rw (turned k l Less less) (ap (member l d) (untouched k f ms (second_so (is_lt (slice_cmp nat_cmp k l)) (precedes k ms) p)))

-- members where the value at a key is put anew are those with it changed
put_changed : (k : List ℕ) (f : Data → Data) (old : Data) (ms : Members) → in_order ms ≡ true → get_member k ms ≡ Some old → put k (f old) ms ≡ changed_at k f ms
put_changed k f old no_members h there = absurd (cc there)
put_changed k f old (member l e ms) h there =
    elim (slice_cmp nat_cmp k l) as (λ o. slice_cmp nat_cmp k l ≡ o → match_ordering o (get_member k ms) (Some e) (get_member k ms) ≡ Some old
    → match_ordering o (member k (f old) (member l e ms)) (member l (f old) ms) (member l e (put k (f old) ms)) ≡ member l (if bytes_eq l k then f e else e) (changed_at k f ms)) [
      | Less ↦ λ is at. absurd (let none : get_member k ms ≡ None = none_found k ms (before k l e ms is h) in cc (at, none))
      | Equal ↦ λ is at.
          let same : k ≡ l = (bytes_eq-Decides k l).0 (sym (is_eq-slice_cmp k l) ∙ ap is_eq is) in
          let first : precedes k ms ≡ true = rw same (key_first l e ms h) in
          let value : old ≡ e = sym (given e old at) in
          rw (turned k l Equal is, value) (ap (member l (f e)) (sym (untouched k f ms first)))
      | Greater ↦ λ is at. rw (turned k l Greater is) (ap (member l e) (put_changed k f old ms (others_in_order l e ms h) at))
    ] refl there
  where
    before : (k l : List ℕ) (e : Data) (ms : Members) → slice_cmp nat_cmp k l ≡ Less → in_order (member l e ms) ≡ true → precedes k ms ≡ true
    before k l e ms is h = precedes_too k l ms is (key_first l e ms h)

-- ---- stamps

pub text_there : (o : Option Data) (s : List ℕ) → option_and_then as_str o ≡ Some s → o ≡ Some (string s)
text_there None s h = absurd (cc h)
text_there (Some (string t)) s h = ap (λ (u : Option (List ℕ)). Some (string (unwrap_or u []))) h
text_there (Some null) s h = absurd (cc h)
text_there (Some (boolean b)) s h = absurd (cc h)
text_there (Some (number n)) s h = absurd (cc h)
text_there (Some (array ds)) s h = absurd (cc h)
text_there (Some (object ms)) s h = absurd (cc h)

-- the members of an object among members in order are in order
pub inner_order : (k : List ℕ) (ms ns : Members) → in_order ms ≡ true → get_member k ms ≡ Some (object ns) → in_order ns ≡ true
inner_order k no_members ns h at = absurd (cc at)
inner_order k (member l e ms) ns h at =
    elim (slice_cmp nat_cmp k l) as (λ o. match_ordering o (get_member k ms) (Some e) (get_member k ms) ≡ Some (object ns) → in_order ns ≡ true) [
      | Less ↦ λ is. inner_order k ms ns (others_in_order l e ms h) is
      | Equal ↦ λ is.
          let value : e ≡ object ns = given e (object ns) is in
          let P : Data → Type 0 = λ d. is_ordered d ≡ true in
          subst P value (first_so (is_ordered e) (in_order ms) (second_so (precedes l ms) (is_ordered e && in_order ms) h))
      | Greater ↦ λ is. inner_order k ms ns (others_in_order l e ms h) is
    ] at

-- the metadata of an object with a value at a key of it
pub record HasMetadata (key : List ℕ) (value : Data) (ms : Members) : Type 0 where
  pub metadata : Members
  pub there : get_member (codes "metadata") ms ≡ Some (object metadata)
  pub inside : get_member key metadata ≡ Some value

pub has_metadata : (k : List ℕ) (d : Data) (ms : Members) → in_metadata k (object ms) ≡ Some d → HasMetadata k d ms
has_metadata k d ms h = by_value (get_member (codes "metadata") ms) refl h
  where
    by_value : (o : Option Data) → get_member (codes "metadata") ms ≡ o → option_and_then (get k) o ≡ Some d → HasMetadata k d ms
    by_value None at is = absurd (cc is)
    by_value (Some (object ns)) at is = record { metadata = ns; there = at; inside = is }
    by_value (Some null) at is = absurd (cc is)
    by_value (Some (boolean b)) at is = absurd (cc is)
    by_value (Some (number n)) at is = absurd (cc is)
    by_value (Some (string s)) at is = absurd (cc is)
    by_value (Some (array ds)) at is = absurd (cc is)

-- another text is set where one stands
set_anew : (k t : List ℕ) (old d : Data) → is_ordered d ≡ true → in_metadata k d ≡ Some old → with_text k t d ≡ with_changed (codes "metadata") (with_changed k (λ e. string t)) d
set_anew k t old (object ms) h there =
    let m = has_metadata k old ms there in
    let ns : Members = m.metadata in
    let f : Data → Data = λ e. string t in
    ap (λ (o : Option Data). object (put (codes "metadata") (object (put k (string t) (members_or_none o))) ms)) m.there
    ∙ ap (λ (xs : Members). object (put (codes "metadata") (object xs) ms)) (put_changed k f old ns (inner_order (codes "metadata") ms ns h m.there) m.inside)
    ∙ ap object (put_changed (codes "metadata") (with_changed k f) (object ns) ms h m.there)
set_anew k t old null h there = absurd (cc there)
set_anew k t old (boolean b) h there = absurd (cc there)
set_anew k t old (number n) h there = absurd (cc there)
set_anew k t old (string s) h there = absurd (cc there)
set_anew k t old (array ds) h there = absurd (cc there)

-- what has the stamps of an old object needs another version alone to replace it
pub version_alone : (old tree d : Data) (n : ℕ) → is_ordered d ≡ true → d ≡ with_stamps_of old tree → with_text (codes "resourceVersion") (decimal n) d ≡ replaced_tree n old tree
version_alone old tree d n h is =
    ap (with_text (codes "resourceVersion") (decimal n)) (sym (text_set_again (codes "uid") (uid_in old) d h (text_there (in_metadata (codes "uid") d) (uid_in old) (old_uid old tree d is))))
    ∙ ap (stamped_tree (uid_in old) (decimal n)) is

-- an object with a version is at another version after that is set
pub versioned_again : (v : List ℕ) (n : ℕ) (d : Data) → is_ordered d ≡ true → option_and_then as_str (in_metadata (codes "resourceVersion") d) ≡ Some v
    → with_text (codes "resourceVersion") (decimal n) d ≡ at_version n d
versioned_again v n d h versioned =
    set_anew (codes "resourceVersion") (decimal n) (string v) d h (text_there (in_metadata (codes "resourceVersion") d) v versioned)
