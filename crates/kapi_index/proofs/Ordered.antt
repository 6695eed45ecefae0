-- Keys in order, among which one is searched for.
use Rattle.std.proofs.Common.{◌≡◌, ℕ, ◌+◌, Bool, true, false, List, [], Some, Result, Ok, Err, arith, length, sym, ap, get_or, ⊎_elim, ◌∙◌}
use Rattle.std.specs.Prelude.{is_ok}
use Rattle.std.specs.Bool.{OnTrue}
use Rattle.std.specs.List.{IsAllAdjacentAnswer}
use Rattle.std.specs.List.Sorted.{IsBinarySearchResult, IsPermutation, IsSearchInRange, IsSorted}
use Rattle.std.specs.Ordering.{is_eq, is_le, is_lt, ordering_reverse, partial_le}
use Rattle.std.specs.declared.cmp.Ordering.{Ordering}
use Rattle.std.specs.declared.cmp.Ordering.TheVariants.{Less, Equal, Greater}
use Rattle.std.specs.Str.{bytes_eq}
use Rattle.std.proofs.lemmas.Bool.{cases_lt}
use Rattle.std.proofs.lemmas.List.Folds.{list_any_at, list_any_none}
use Rattle.std.proofs.lemmas.List.Sorted.{list_any-IsPermutation, searchable_from_sorted}
use Rattle.std.proofs.lemmas.Map.Text.{is_eq-slice_cmp}
use Rattle.kapi_policy.specs.Objects.{name_cmp}
use Rattle.kapi_index.proofs.Finds.{name_total}
use Rattle.kapi_index.specs.Listed.{AreKeys, is_key}

pub moved_keys : (keys ordered : List (List ℕ)) → IsPermutation keys ordered → AreKeys ordered keys
moved_keys keys ordered moved = λ key. sym (list_any-IsPermutation (λ x. bytes_eq x key) keys ordered moved)

behind : (o p : Ordering) → p ≡ ordering_reverse o → is_le o ≡ true → is_lt p ≡ false
behind Less p e h = ap is_lt e
behind Equal p e h = ap is_lt e
behind Greater p e h = cc

-- keys that are seen not to fall from each to the next are in order
pub order_seen : (keys : List (List ℕ)) (rises : Bool) → IsAllAdjacentAnswer (λ a b r. partial_le (λ x y. Some (name_cmp x y)) a b ≡ r) keys rises
    → OnTrue rises (IsSorted name_cmp keys)
order_seen keys true rises = λ k d low within.
    let a = get_or keys k d in let b = get_or keys (k + 1) d in
    behind (name_cmp a b) (name_cmp b a) (name_total.antisymm b a) (rises k d within)
order_seen keys false falls = tt

pub known : {P : Type 0} (is : Bool) → OnTrue is P → is ≡ true → P
known true p same = p
known false p same = absurd cc

pub found_in_order : (key : List ℕ) (keys : List (List ℕ)) (r : Result ℕ ℕ) → IsSorted name_cmp keys → IsSearchInRange r (length keys)
    → IsBinarySearchResult (λ y. name_cmp y key) keys r → is_ok r ≡ is_key key keys
found_in_order key keys (Ok i) sorted range found =
    sym (list_any_at (λ x. bytes_eq x key) keys i [] range (sym (is_eq-slice_cmp (get_or keys i []) key) ∙ ap is_eq (found [])))
found_in_order key keys (Err i) sorted range place =
    let apart = place (searchable_from_sorted name_total (λ x. x) keys key sorted) in
    sym (list_any_none (λ x. bytes_eq x key) keys
    (λ k d within. sym (is_eq-slice_cmp (get_or keys k d) key)
    ∙ ⊎_elim (λ below. ap is_eq (apart.0 k d (omega arith) below)) (λ from. ap is_eq (apart.1 k d from within)) (cases_lt k i)))
