-- The kept labels of a tree have the values of the labels in the tree.
use Rattle.std.proofs.Common.{◌≡◌, ◌∙◌, ℕ, List, true, if◌then◌else◌, Option, Some, None, is_some, refl, sym, ap, bytes_eq, codes}
use Rattle.std.proofs.lemmas.Map.Text.{is_eq-slice_cmp}
use Rattle.std.proofs.lemmas.Slice.Eq.{bytes_eq-Decides}
use Rattle.std.specs.Cmp.Lexicographic.{slice_cmp, nat_list_cmp_total}
use Rattle.std.specs.Option.{option_and_then, unwrap_or}
use Rattle.std.specs.Ordering.{nat_cmp, match_ordering, ordering_reverse, is_eq}
use Rattle.std.specs.declared.cmp.Ordering.{Ordering}
use Rattle.std.specs.declared.cmp.Ordering.TheVariants.{Less, Equal, Greater}
use Rattle.serde_json.specs.Data.{Data, null, boolean, number, string, array, object, Members, no_members, member}
use Rattle.serde_json.specs.Find.{as_str, get_member}
use Rattle.kapi_model.specs.Selector.{label_in, value_in}
use Rattle.kapi_object.proofs.Closed.{found_hold, in_metadata_holds}
use Rattle.kapi_object.proofs.SetTexts.{in_members}
use Rattle.kapi_object.proofs.Ordered.{key_first, keys_in_order, none_found, others_in_order, was_read_ordered}
use Rattle.kapi_object.specs.Order.{in_order, is_ordered, precedes}
use Rattle.kapi_object.specs.Tree.{in_metadata, members_or_none}
use Rattle.serde_json.specs.Read.{read}
use Rattle.kapi_store.specs.Labels.{labels_among, labels_of, told_by}
use Rattle.kapi_store.specs.Matching.{AreDistinct}

-- keys are compared either way
pub turned : (k l : List ℕ) (o : Ordering) → slice_cmp nat_cmp k l ≡ o → bytes_eq l k ≡ is_eq (ordering_reverse o)
turned k l o is = sym (is_eq-slice_cmp l k) ∙ ap is_eq (nat_list_cmp_total.antisymm l k ∙ ap ordering_reverse is)

-- a member that is no text is passed over, and no other has its key
passed : (k l : List ℕ) (d : Data) (ms : Members) → as_str d ≡ None → in_order (member l d ms) ≡ true
    → value_in (labels_among ms) k ≡ option_and_then as_str (get_member k ms) → value_in (labels_among ms) k ≡ option_and_then as_str (get_member k (member l d ms))
passed k l d ms none h rest =
    elim (slice_cmp nat_cmp k l) as (λ o. slice_cmp nat_cmp k l ≡ o → value_in (labels_among ms) k ≡ option_and_then as_str (match_ordering o (get_member k ms) (Some d) (get_member k ms))) [
      | Less ↦ λ is. rest
      | Equal ↦ λ is.
          let same : k ≡ l = (bytes_eq-Decides k l).0 (sym (is_eq-slice_cmp k l) ∙ ap is_eq is) in
          let before : precedes k ms ≡ true = rw same (key_first l d ms h) in
          rest ∙ ap (option_and_then as_str) (none_found k ms before) ∙ sym none
      | Greater ↦ λ is. rest
    ] refl

values : (k : List ℕ) (ms : Members) → in_order ms ≡ true → value_in (labels_among ms) k ≡ option_and_then as_str (get_member k ms)
values k no_members h = refl
values k (member l (string s) ms) h =
    let rest : value_in (labels_among ms) k ≡ option_and_then as_str (get_member k ms) = values k ms (others_in_order l (string s) ms h) in
    elim (slice_cmp nat_cmp k l) as (λ o. slice_cmp nat_cmp k l ≡ o
    → (if bytes_eq l k then Some s else value_in (labels_among ms) k) ≡ option_and_then as_str (match_ordering o (get_member k ms) (Some (string s)) (get_member k ms))) [
      | Less ↦ λ is. rw (turned k l Less is) rest
      | Equal ↦ λ is. rw (turned k l Equal is) refl
      | Greater ↦ λ is. rw (turned k l Greater is) rest
    ] refl
values k (member l null ms) h = passed k l null ms refl h (values k ms (others_in_order l null ms h))
values k (member l (boolean b) ms) h = passed k l (boolean b) ms refl h (values k ms (others_in_order l (boolean b) ms h))
values k (member l (number n) ms) h = passed k l (number n) ms refl h (values k ms (others_in_order l (number n) ms h))
values k (member l (array ds) ms) h = passed k l (array ds) ms refl h (values k ms (others_in_order l (array ds) ms h))
values k (member l (object ns) ms) h = passed k l (object ns) ms refl h (values k ms (others_in_order l (object ns) ms h))

labels_in_order : (d : Data) → is_ordered d ≡ true → in_order (members_or_none (in_metadata (codes "labels") d)) ≡ true
labels_in_order d h = found_hold keys_in_order 0 (in_metadata (codes "labels") d) (in_metadata_holds keys_in_order 1 (codes "labels") d h)

pub values_kept : (d : Data) → is_ordered d ≡ true → value_in (labels_of d) ≡ label_in (in_metadata (codes "labels") d)
values_kept d h =
    let o : Option Data = in_metadata (codes "labels") d in
    λ i k. (values k (members_or_none o) (labels_in_order d h) ∙ ap (option_and_then as_str) (in_members k o)) i

distinct : (ms : Members) → in_order ms ≡ true → AreDistinct (labels_among ms)
distinct no_members h = tt
distinct (member l (string s) ms) h =
    let others : in_order ms ≡ true = others_in_order l (string s) ms h in
    (values l ms others ∙ ap (option_and_then as_str) (none_found l ms (key_first l (string s) ms h)), distinct ms others)
distinct (member l null ms) h = distinct ms (others_in_order l null ms h)
distinct (member l (boolean b) ms) h = distinct ms (others_in_order l (boolean b) ms h)
distinct (member l (number n) ms) h = distinct ms (others_in_order l (number n) ms h)
distinct (member l (array ds) ms) h = distinct ms (others_in_order l (array ds) ms h)
distinct (member l (object ns) ms) h = distinct ms (others_in_order l (object ns) ms h)

-- the kept labels have each key once
pub labels_distinct : (d : Data) → is_ordered d ≡ true → AreDistinct (labels_of d)
labels_distinct d h = distinct (members_or_none (in_metadata (codes "labels") d)) (labels_in_order d h)

-- ---- a text that is read

is_told : (o : Option Data) → is_some o ≡ true → o ≡ Some (unwrap_or o null)
is_told None h = absurd (cc h)
is_told (Some d) h = refl

-- the tree that a text is read as is ordered
pub told_ordered : (text : List ℕ) → is_some (read text) ≡ true → is_ordered (told_by text) ≡ true
told_ordered text h = was_read_ordered text (told_by text) (is_told (read text) h)
