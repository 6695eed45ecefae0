-- Members after others were put, and lists that are read as they were written.
use Rattle.std.proofs.Common.{◌≡◌, ◌∙◌, ℕ, List, [], ◌∷◌, Option, Some, None, option_map, MutBor, true, false, cond, string_bytes, refl, sym, ap, bytes_eq, true≢false, length}
use Rattle.std.proofs.Math.Dec.{eqb-suc-zero}
use Rattle.std.proofs.lemmas.Slice.Eq.{bytes_eq-Decides}
use Rattle.std.specs.BTreeMap.{is_at}
use Rattle.std.specs.Cmp.Lexicographic.{slice_cmp}
use Rattle.std.specs.Map.{lookup, set_value}
use Rattle.std.specs.Option.{option_and_then}
use Rattle.std.specs.Ordering.{nat_cmp, is_eq, match_ordering}
use Rattle.std.specs.declared.cmp.Ordering.TheVariants.{Less, Equal, Greater}
use Rattle.serde_json.proofs.Views.{Entry, get_member-put, get_member-put_other, view_of_mut, view-lookup}
use Rattle.serde_json.specs.Data.{Data, null, string, object, Items, no_items, item, Members, no_members, member, put}
use Rattle.serde_json.specs.Find.{get_member}
use Rattle.serde_json.specs.View.{view, members_view}
use Rattle.serde_json.specs.declared.value.Value.{Value}
use Rattle.kapi_object.proofs.Ordered.{key_first, none_found, others_in_order, precedes_too}
use Rattle.kapi_object.specs.Order.{in_order}
use Rattle.kapi_object.specs.Contents.{items_if, items_at, read_items, write_items, put_items, text_if, text_of, text_value, list_value, members_value}
use Rattle.kapi_object.specs.Tree.{put_if, unless_null}

apart : (q k : List ℕ) → bytes_eq q k ≡ false → q ≡ k → ⊥
apart q k h e = true≢false (sym ((bytes_eq-Decides q k).1 e) ∙ h)

-- ---- members

pub put_other : (q k : List ℕ) (d : Data) (ms : Members) → bytes_eq q k ≡ false → get_member q (put k d ms) ≡ get_member q ms
put_other q k d ms h = get_member-put_other q k d ms (apart q k h)

pub put_if_other : (q k : List ℕ) (o : Option Data) (ms : Members) → bytes_eq q k ≡ false → get_member q (put_if k o ms) ≡ get_member q ms
put_if_other q k None ms h = refl
put_if_other q k (Some d) ms h = put_other q k d ms h

pub put_if_here : (k : List ℕ) (o : Option Data) (ms : Members) → get_member k ms ≡ None → get_member k (put_if k o ms) ≡ o
put_if_here k None ms h = h
put_if_here k (Some d) ms h = get_member-put k d ms

-- what a look-up among a map's entries finds and lends
pub place_found : (key : List ℕ) (es : List Entry) (r : Option (MutBor Value)) → option_map (λ x. x.now) r ≡ lookup (is_at (λ k. slice_cmp nat_cmp key (string_bytes k))) es
    → option_map (λ x. view x.now) r ≡ get_member key (members_view es)
place_found key es r h = view_of_mut r ∙ ap (option_map view) h ∙ view-lookup key es

-- a value in place of the found one
pub members_view_set : (key : List ℕ) (v : Value) (old : Data) (es : List Entry) → in_order (members_view es) ≡ true → Some old ≡ get_member key (members_view es)
    → members_view (set_value (is_at (λ k. slice_cmp nat_cmp key (string_bytes k))) es v) ≡ put key (view v) (members_view es)
members_view_set key v old [] h there = absurd (cc there)
members_view_set key v old (e ∷ es) h there =
    let k : List ℕ = string_bytes e.0 in
    let ms : Members = members_view es in
    let rest : List Entry = set_value (is_at (λ j. slice_cmp nat_cmp key (string_bytes j))) es v in
    elim (slice_cmp nat_cmp key k) as (λ o. slice_cmp nat_cmp key k ≡ o → Some old ≡ match_ordering o (get_member key ms) (Some (view e.1)) (get_member key ms)
    → members_view (cond (is_eq o) ((e.0, v) ∷ es) (e ∷ rest)) ≡ match_ordering o (member key (view v) (member k (view e.1) ms)) (member k (view v) ms) (member k (view e.1) (put key (view v) ms))) [
      | Less ↦ λ is found. absurd (cc (none_found key ms (precedes_too key k ms is (key_first k (view e.1) ms h)), found))
      | Equal ↦ λ is found. refl
      | Greater ↦ λ is found. ap (member k (view e.1)) (members_view_set key v old es (others_in_order k (view e.1) ms h) found)
    ] refl there

-- a value that is there already changes nothing
pub put_there : (k : List ℕ) (d : Data) (ms : Members) → in_order ms ≡ true → get_member k ms ≡ Some d → put k d ms ≡ ms
put_there k d no_members h there = absurd (cc there)
put_there k d (member l e ms) h there =
    elim (slice_cmp nat_cmp k l) as (λ o. slice_cmp nat_cmp k l ≡ o → match_ordering o (get_member k ms) (Some e) (get_member k ms) ≡ Some d
    → match_ordering o (member k d (member l e ms)) (member l d ms) (member l e (put k d ms)) ≡ member l e ms) [
      | Less ↦ λ is found. absurd (cc (none_found k ms (precedes_too k l ms is (key_first l e ms h)), found))
      | Equal ↦ λ is found. cc
      | Greater ↦ λ is found. ap (member l e) (put_there k d ms (others_in_order l e ms h) found)
    ] refl there

-- ---- what is never null

pub there_once : (o : Option Data) → option_and_then unless_null (option_and_then unless_null o) ≡ option_and_then unless_null o
there_once None = refl
there_once (Some null) = refl
there_once (Some _) = refl

pub text_there : (s : List ℕ) → option_and_then unless_null (text_value s) ≡ text_value s
text_there [] = refl
text_there (x ∷ s) = rw (eqb-suc-zero (length s)) refl

pub list_there : (ds : Items) → option_and_then unless_null (list_value ds) ≡ list_value ds
list_there no_items = refl
list_there (item d ds) = refl

pub members_there : (ms : Members) → option_and_then unless_null (members_value ms) ≡ members_value ms
members_there no_members = refl
members_there (member k d ms) = refl

-- ---- lists

pub items_listed : (ds : Items) → items_if (list_value ds) ≡ ds
items_listed no_items = refl
items_listed (item d ds) = refl

-- the elements of a list that was put at a key without a value
pub put_items_same : (k : List ℕ) (ds : Items) (ms : Members) → get_member k ms ≡ None → items_at k (object (put_items k ds ms)) ≡ ds
put_items_same k ds ms h =
    ap (λ o. items_if (option_and_then unless_null o)) (put_if_here k (list_value ds) ms h) ∙ ap items_if (list_there ds) ∙ items_listed ds

pub list_round : {X : Type 0} (r : Data → X) (w : X → Data) → ((x : X) → r (w x) ≡ x) → (xs : List X) → read_items r (write_items w xs) ≡ xs
list_round r w h [] = refl
list_round r w h (x ∷ xs) = rw (h x, list_round r w h xs) refl

pub texts_round : (ss : List (List ℕ)) → read_items text_of (write_items string ss) ≡ ss
texts_round ss = list_round text_of string (λ s. refl) ss

-- the texts of a list that is written unless it is empty
pub listed_round : (o : Option Data) (ss : List (List ℕ)) → o ≡ list_value (write_items string ss) → read_items text_of (items_if o) ≡ ss
listed_round o ss h = ap (λ p. read_items text_of (items_if p)) h ∙ ap (read_items text_of) (items_listed (write_items string ss)) ∙ texts_round ss

-- reading and writing in one step
pub written_at_once : {X : Type 0} (r : Data → X) (w : X → Data) (ds : Items) → write_items w (read_items r ds) ≡ write_items (λ d. d) (read_items (λ d. w (r d)) ds)
written_at_once r w no_items = refl
written_at_once r w (item d ds) = ap (item (w (r d))) (written_at_once r w ds)

pub text_round : (s : List ℕ) → text_if (text_value s) ≡ s
text_round [] = refl
text_round (x ∷ s) = rw (eqb-suc-zero (length s)) refl
