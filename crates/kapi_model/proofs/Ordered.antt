-- Labels in the order of their keys, among which one is searched for.
use Rattle.std.proofs.Common.{◌≡◌, ℕ, zero, suc, ◌+◌, ◌<◌, ◌≤◌, true, false, List, [], ◌∷◌, Option, Some, None, Result, Ok, Err, Bool, refl, sym, ap, arith, length, get_or, ⊎_elim, ◌∙◌}
use Rattle.std.specs.Cmp.{IsTotalOrder}
use Rattle.std.specs.Cmp.Lexicographic.{nat_list_cmp_total, slice_cmp}
use Rattle.std.specs.List.{AllAdjacentBelow, IsAllAdjacentAnswer}
use Rattle.std.specs.Bool.{OnTrue}
use Rattle.std.specs.List.Sorted.{IsBinarySearchResult, IsSearchInRange, IsSortedBy, IsStrictlySortedBy}
use Rattle.std.specs.Ordering.{is_eq, is_lt, nat_cmp, ordering_reverse}
use Rattle.std.specs.Result.{MatchResult}
use Rattle.std.specs.Str.{bytes_eq}
use Rattle.std.specs.declared.cmp.Ordering.{Ordering}
use Rattle.std.specs.declared.cmp.Ordering.TheVariants.{Less, Equal, Greater}
use Rattle.std.proofs.lemmas.Bool.{cases_lt}
use Rattle.std.proofs.lemmas.Cmp.{on_total}
use Rattle.std.proofs.lemmas.List.Sorted.{searchable_from_sorted}
use Rattle.std.proofs.lemmas.Map.Keys.{Less-from_sorted, sorted_from_all_adjacent}
use Rattle.std.proofs.lemmas.Slice.Eq.{bytes_eq-Decides}
use Rattle.std.proofs.lemmas.Map.Text.{is_eq-slice_cmp}
use Rattle.kapi_model.specs.Private.Lookup.{AreInOrder, label_cmp}
use Rattle.kapi_model.specs.Selector.{value_in}
use Rattle.kapi_model.specs.declared.selector.Label.{Label}

label_total : IsTotalOrder label_cmp
label_total = on_total (λ (l : Label). l.key) nat_list_cmp_total

pub ordered_by_neighbours : (ls : List Label) → AllAdjacentBelow (λ a b. label_cmp a b ≡ Less) ls (length ls) → AreInOrder ls
unfolding IsStrictlySortedBy
ordered_by_neighbours [] rises = tt
ordered_by_neighbours (l ∷ ls) rises = sorted_from_all_adjacent label_total (l ∷ ls) l (λ k within. rises k l within)

only_less : (o : Ordering) → is_lt o ≡ true → o ≡ Less
only_less Less h = refl
only_less Equal h = cc
only_less Greater h = cc

-- a list that is seen to rise from each label to the next is in order
pub order_seen : (ls : List Label) (rises : Bool) → IsAllAdjacentAnswer (λ a b r. r ≡ is_lt (label_cmp a b)) ls rises → OnTrue rises (AreInOrder ls)
order_seen ls true rises = ordered_by_neighbours ls (λ k d within. only_less _ (sym (rises k d within)))
order_seen ls false falls = tt

pub known : {P : Type 0} (is : Bool) → OnTrue is P → is ≡ true → P
known true p same = p
known false p same = absurd cc

-- labels before the place of a key have other keys
abbrev HaveOther : List Label → List ℕ → ℕ → Type 0
HaveOther ls key n = (k : ℕ) (d : Label) → k < n → bytes_eq (get_or ls k d).key key ≡ false

other_behind : (l : Label) (ls : List Label) (key : List ℕ) (n : ℕ) → HaveOther (l ∷ ls) key (suc n) → HaveOther ls key n
other_behind l ls key n other k d below = other (suc k) d (omega (arith, below))

pub value_of_none : (ls : List Label) (key : List ℕ) → HaveOther ls key (length ls) → value_in ls key ≡ None
value_of_none [] key other = refl
value_of_none (l ∷ ls) key other = rw (other 0 l (omega arith)) (value_of_none ls key (other_behind l ls key (length ls) other))

pub value_at : (ls : List Label) (key : List ℕ) (i : ℕ) (d : Label) → i < length ls → bytes_eq (get_or ls i d).key key ≡ true → HaveOther ls key i
    → value_in ls key ≡ Some (get_or ls i d).value
value_at [] key i d within is other = absurd (omega (arith, within))
value_at (l ∷ ls) key zero d within is other = rw is refl
value_at (l ∷ ls) key (suc i) d within is other =
    rw (other 0 l (omega arith)) (value_at ls key i d (omega (arith, within)) is (other_behind l ls key i other))

not_behind : (o p : Ordering) → o ≡ ordering_reverse p → p ≡ Less → is_lt o ≡ false
not_behind o p e h = ap is_lt (e ∙ ap ordering_reverse h)

sorted_by_keys : (ls : List Label) → AreInOrder ls → IsSortedBy (λ a b. is_lt (slice_cmp nat_cmp a.key b.key)) ls
sorted_by_keys ls ordered k d low within =
    let a = get_or ls k d in let b = get_or ls (k + 1) d in
    not_behind (label_cmp b a) (label_cmp a b) (label_total.antisymm b a) (Less-from_sorted label_cmp ls k (k + 1) d ordered (omega arith) within)

-- what a binary search finds in labels in order is the value of the first label of the key, and of none if it finds a gap
pub found_in_order : (ls : List Label) (key : List ℕ) (r : Result ℕ ℕ) → AreInOrder ls → IsSearchInRange r (length ls)
    → IsBinarySearchResult (λ l. slice_cmp nat_cmp l.key key) ls r
    → MatchResult r (λ i. (d : Label) → value_in ls key ≡ Some (get_or ls i d).value) (λ i. value_in ls key ≡ None)
found_in_order ls key (Ok i) ordered range found = λ d. value_at ls key i d range ((bytes_eq-Decides (get_or ls i d).key key).1 (same d)) before
  where
    same : (e : Label) → (get_or ls i e).key ≡ key
    same e = (bytes_eq-Decides (get_or ls i e).key key).0 (sym (is_eq-slice_cmp (get_or ls i e).key key) ∙ ap is_eq (found e))

    before : (k : ℕ) (e : Label) → k < i → bytes_eq (get_or ls k e).key key ≡ false
    before k e below =
        ap (bytes_eq (get_or ls k e).key) (sym (same e)) ∙ sym (is_eq-slice_cmp (get_or ls k e).key (get_or ls i e).key)
        ∙ ap is_eq (Less-from_sorted label_cmp ls k i e ordered below range)
found_in_order ls key (Err i) ordered range place =
    let apart = place (searchable_from_sorted nat_list_cmp_total (λ (l : Label). l.key) ls key (sorted_by_keys ls ordered)) in
    value_of_none ls key
    (λ k d within. sym (is_eq-slice_cmp (get_or ls k d).key key)
    ∙ ⊎_elim (λ below. ap is_eq (apart.0 k d (omega arith) below)) (λ from. ap is_eq (apart.1 k d from within)) (cases_lt k i))
