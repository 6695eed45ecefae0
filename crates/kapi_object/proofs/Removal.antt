-- Members without one of them.
use Rattle.std.proofs.Common.{◌≡◌, ◌∙◌, ℕ, List, [], ◌∷◌, Bool, true, false, not, if◌then◌else◌, Some, cond, bytes_eq, true≢false, refl, sym, ap, subst, String, Global, string_bytes}
use Rattle.std.proofs.lemmas.Map.Text.{is_eq-slice_cmp}
use Rattle.std.proofs.lemmas.Slice.Eq.{bytes_eq-Decides}
use Rattle.std.specs.BTreeMap.{is_at}
use Rattle.std.specs.Cmp.{first_so}
use Rattle.std.specs.Cmp.Lexicographic.{slice_cmp}
use Rattle.std.specs.Map.{remove_entry}
use Rattle.std.specs.Ordering.{nat_cmp, is_eq, is_lt, match_ordering}
use Rattle.std.specs.declared.cmp.Ordering.{Ordering}
use Rattle.std.specs.declared.cmp.Ordering.TheVariants.{Less, Equal, Greater}
use Rattle.serde_json.specs.Data.{Data, Members, no_members, member, put}
use Rattle.serde_json.specs.Find.{get_member}
use Rattle.serde_json.specs.View.{view, members_view}
use Rattle.serde_json.specs.declared.value.Value.{Value}
use Rattle.kapi_object.proofs.Closed.{members_hold}
use Rattle.kapi_object.proofs.Ordered.{is_less, keys_in_order, none_removed, key_first, others_in_order, precedes_too, precedes_filter}
use Rattle.kapi_object.specs.Order.{in_order, is_ordered, precedes}
use Rattle.kapi_object.specs.Tree.{members_or_none, without}

abbrev pub Entry : Type 0
Entry = String Global × Value

pub members_view_removed : (key : List ℕ) (es : List Entry) → in_order (members_view es) ≡ true
    → members_view (remove_entry (is_at (λ k. slice_cmp nat_cmp key (string_bytes k))) es) ≡ without key (members_view es)
members_view_removed key [] h = refl
members_view_removed key (e ∷ es) h =
    let k : List ℕ = string_bytes e.0 in
    let ms : Members = members_view es in
    let rest : List Entry = remove_entry (is_at (λ j. slice_cmp nat_cmp key (string_bytes j))) es in
    let P : Bool → Type 0 = λ b. bytes_eq key k ≡ b → members_view (cond b es (e ∷ rest)) ≡ (if not b then member k (view e.1) (without key ms) else without key ms) in
    let cases : P (bytes_eq key k) = elim (bytes_eq key k) as P [
      | true ↦ λ i. sym (none_removed key ms (rw ((bytes_eq-Decides key k).0 i) (key_first k (view e.1) ms h)))
      | false ↦ λ i. ap (member k (view e.1)) (members_view_removed key es (others_in_order k (view e.1) ms h))
    ] in
    rw (is_eq-slice_cmp key k) (cases refl)

-- ---- a value in the place of another

put_front : (k : List ℕ) (d : Data) (ms : Members) → precedes k ms ≡ true → put k d ms ≡ member k d ms
put_front k d no_members p = refl
put_front k d (member l e ms) p =
    let less : slice_cmp nat_cmp k l ≡ Less = is_less (slice_cmp nat_cmp k l) (first_so (is_lt (slice_cmp nat_cmp k l)) (precedes k ms) p) in
    rw less refl

-- a value that is put next to a removed member
pub put_without : (m k : List ℕ) (d : Data) (ms : Members) → in_order ms ≡ true → bytes_eq m k ≡ false → put k d (without m ms) ≡ without m (put k d ms)
put_without m k d no_members h apart = rw apart refl
put_without m k d (member l e ms) h apart =
    elim (slice_cmp nat_cmp k l) as (λ o. slice_cmp nat_cmp k l ≡ o
    → put k d (without m (member l e ms)) ≡ without m (match_ordering o (member k d (member l e ms)) (member l d ms) (member l e (put k d ms)))) [
      | Less ↦ λ is.
          let before : precedes k (member l e ms) ≡ true = rw is (precedes_too k l ms is (key_first l e ms h)) in
          rw apart (put_front k d (without m (member l e ms)) (precedes_filter k (λ other. not (bytes_eq m other)) (member l e ms) before))
      | Equal ↦ λ is.
          let same : k ≡ l = (bytes_eq-Decides k l).0 (sym (is_eq-slice_cmp k l) ∙ ap is_eq is) in
          let F : List ℕ → Type 0 = λ x. bytes_eq m x ≡ false in
          rw (subst F same apart, is) refl
      | Greater ↦ λ is.
          elim (bytes_eq m l) as (λ b. put k d (if not b then member l e (without m ms) else without m ms)
          ≡ (if not b then member l e (without m (put k d ms)) else without m (put k d ms))) [
            | true ↦ put_without m k d ms (others_in_order l e ms h) apart
            | false ↦ rw is (ap (member l e) (put_without m k d ms (others_in_order l e ms h) apart))
          ]
    ] refl

-- the other members stay where one is taken out
pub get_without : (q m : List ℕ) (ms : Members) → bytes_eq q m ≡ false → get_member q (without m ms) ≡ get_member q ms
get_without q m no_members h = refl
get_without q m (member l d ms) h =
    elim (bytes_eq m l) as (λ b. bytes_eq m l ≡ b → get_member q (if not b then member l d (without m ms) else without m ms) ≡ get_member q (member l d ms)) [
      | true ↦ λ is.
          let F : List ℕ → Type 0 = λ x. bytes_eq q x ≡ false in
          let apart : bytes_eq q l ≡ false = subst F ((bytes_eq-Decides m l).0 is) h in
          elim (slice_cmp nat_cmp q l) as (λ o. slice_cmp nat_cmp q l ≡ o → get_member q (without m ms) ≡ match_ordering o (get_member q ms) (Some d) (get_member q ms)) [
            | Less ↦ λ _. get_without q m ms h
            | Equal ↦ λ so. absurd (true≢false (sym (sym (is_eq-slice_cmp q l) ∙ ap is_eq so) ∙ apart))
            | Greater ↦ λ _. get_without q m ms h
          ] refl
      | false ↦ λ is.
          elim (slice_cmp nat_cmp q l) as (λ o. match_ordering o (get_member q (without m ms)) (Some d) (get_member q (without m ms)) ≡ match_ordering o (get_member q ms) (Some d) (get_member q ms)) [
            | Less ↦ get_without q m ms h
            | Equal ↦ refl
            | Greater ↦ get_without q m ms h
          ]
    ] refl

-- what is put back where it was taken out
pub put_back : (k : List ℕ) (d : Data) (ms : Members) → in_order ms ≡ true → put k d (without k ms) ≡ put k d ms
put_back k d no_members h = refl
put_back k d (member l e ms) h =
    let equal : (o : Ordering) → slice_cmp nat_cmp k l ≡ o → bytes_eq k l ≡ is_eq o = λ o is. sym (is_eq-slice_cmp k l) ∙ ap is_eq is in
    elim (slice_cmp nat_cmp k l) as (λ o. slice_cmp nat_cmp k l ≡ o
    → put k d (without k (member l e ms)) ≡ match_ordering o (member k d (member l e ms)) (member l d ms) (member l e (put k d ms))) [
      | Less ↦ λ is. rw (equal Less is, is) (ap (λ x. member k d (member l e x)) (none_removed k ms (precedes_too k l ms is (key_first l e ms h))))
      | Equal ↦ λ is.
          let same : k ≡ l = (bytes_eq-Decides k l).0 (equal Equal is) in
          let before : precedes k ms ≡ true = rw same (key_first l e ms h) in
          rw (equal Equal is) (ap (put k d) (none_removed k ms before) ∙ put_front k d ms before ∙ ap (λ x. member x d ms) same)
      | Greater ↦ λ is. rw (equal Greater is, is) (ap (member l e) (put_back k d ms (others_in_order l e ms h)))
    ] refl

-- the members of an ordered tree
pub members_are_in_order : (d : Data) → is_ordered d ≡ true → in_order (members_or_none (Some d)) ≡ true
members_are_in_order d h = members_hold keys_in_order 0 d h
