-- What the patch of a name does to members, and a map without one of its entries or with another value in one.
use Rattle.std.proofs.Common.{◌≡◌, ℕ, List, [], ◌∷◌, Bool, true, false, cond, if◌then◌else◌, bytes_eq, refl, ap, String, Global, string_bytes, string_cmp}
use Rattle.std.proofs.lemmas.Cmp.{nat_list_cmp_total}
use Rattle.std.proofs.lemmas.Map.Text.{is_eq-slice_cmp}
use Rattle.std.specs.BTreeMap.{is_at}
use Rattle.std.specs.Cmp.Lexicographic.{slice_cmp}
use Rattle.std.specs.List.{AllByRecursion}
use Rattle.std.specs.List.Sorted.{IsStrictlySortedBy}
use Rattle.std.specs.Map.{keys_of, remove_entry, set_value}
use Rattle.std.specs.Option.{is_some}
use Rattle.std.specs.Ordering.{nat_cmp, is_eq, match_ordering}
use Rattle.std.specs.declared.cmp.Ordering.TheVariants.{Less, Equal, Greater}
use Rattle.serde_json.specs.Data.{Data, null, boolean, number, string, array, object, Members, member, put}
use Rattle.serde_json.specs.Find.{as_null}
use Rattle.serde_json.specs.View.{view, members_view}
use Rattle.serde_json.specs.declared.value.Value.{Value}
use Rattle.kapi_object.specs.Merge.{changed, without}

pub changed_by_null : (name : List ℕ) (patch value : Data) (ms : Members) → is_some (as_null patch) ≡ true → changed name patch value ms ≡ without name ms
changed_by_null name null value ms h = refl
changed_by_null name (boolean b) value ms h = cc
changed_by_null name (number n) value ms h = cc
changed_by_null name (string s) value ms h = cc
changed_by_null name (array ds) value ms h = cc
changed_by_null name (object ps) value ms h = cc

pub changed_by_other : (name : List ℕ) (patch value : Data) (ms : Members) → is_some (as_null patch) ≡ false → changed name patch value ms ≡ put name value ms
changed_by_other name null value ms h = cc
changed_by_other name (boolean b) value ms h = refl
changed_by_other name (number n) value ms h = refl
changed_by_other name (string s) value ms h = refl
changed_by_other name (array ds) value ms h = refl
changed_by_other name (object ps) value ms h = refl

abbrev pub Entry : Type 0
Entry = String Global × Value

pub members_view_removed : (name : List ℕ) (es : List Entry) → members_view (remove_entry (is_at (λ k. slice_cmp nat_cmp name (string_bytes k))) es) ≡ without name (members_view es)
members_view_removed name [] = refl
members_view_removed name (e ∷ es) =
    let k : List ℕ = string_bytes e.0 in
    let ms : Members = members_view es in
    let rest : List Entry = remove_entry (is_at (λ j. slice_cmp nat_cmp name (string_bytes j))) es in
    let P : Bool → Type 0 = λ b. members_view (cond b es (e ∷ rest)) ≡ (if b then ms else member k (view e.1) (without name ms)) in
    let cases : P (bytes_eq name k) = elim (bytes_eq name k) as P [
      | true ↦ refl
      | false ↦ ap (member k (view e.1)) (members_view_removed name es)
    ] in
    rw (is_eq-slice_cmp name k) cases

-- a value is set in no entry that comes after its name
set_before : (name : List ℕ) (v : Value) (key : String Global) (es : List Entry) → slice_cmp nat_cmp name (string_bytes key) ≡ Less
    → AllByRecursion (λ y. string_cmp key y ≡ Less) (keys_of es) → set_value (is_at (λ k. slice_cmp nat_cmp name (string_bytes k))) es v ≡ es
set_before name v key [] below h = refl
set_before name v key (e ∷ es) below h =
    rw (nat_list_cmp_total.trans name (string_bytes key) (string_bytes e.0) below h.0) (ap (◌∷◌ e) (set_before name v key es below h.1))

-- what is put at a name does not depend on the value that was set there before
pub put_over : (name : List ℕ) (d : Data) (v : Value) (es : List Entry) → IsStrictlySortedBy string_cmp (keys_of es)
    → put name d (members_view (set_value (is_at (λ k. slice_cmp nat_cmp name (string_bytes k))) es v)) ≡ put name d (members_view es)
unfolding IsStrictlySortedBy
put_over name d v [] h = refl
put_over name d v (e ∷ es) h =
    let k : List ℕ = string_bytes e.0 in
    let ms : Members = members_view es in
    let rest : List Entry = set_value (is_at (λ j. slice_cmp nat_cmp name (string_bytes j))) es v in
    elim (slice_cmp nat_cmp name k) as (λ o. slice_cmp nat_cmp name k ≡ o → put name d (members_view (cond (is_eq o) ((e.0, v) ∷ es) (e ∷ rest)))
    ≡ match_ordering o (member name d (member k (view e.1) ms)) (member k d ms) (member k (view e.1) (put name d ms))) [
      | Less ↦ λ is. rw (is, set_before name v e.0 es is h.0) refl
      | Equal ↦ λ is. rw is refl
      | Greater ↦ λ is. rw is (ap (member k (view e.1)) (put_over name d v es h.1))
    ] refl
