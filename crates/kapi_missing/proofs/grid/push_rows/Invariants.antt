use Rattle.std.proofs.Common.{◌≡◌, ◌==◌, ◌+◌, ◌||◌, ℕ, nat_lt, true, take}
use Rattle.std.specs.List.{list_all, list_any}
use Rattle.kapi_missing.specs.Private.Grid.{are_below}
use Rattle.kapi_missing.specs.Private.Numbers.{has_number}
use Rattle.kapi_missing.proofs.grid.push_rows.Given as goal

abbrev pub invariant-loop-place : goal.invariant-loop-place
invariant-loop-place l = ((x : ℕ) → has_number l.rows.items x ≡ (has_number l.initial.rows.items x || list_any (λ p. (l.first + p) == x) (take l.place-index l.places)))
    × ((b : ℕ) → are_below b l.initial.rows.items ≡ true → list_all (λ p. nat_lt (l.first + p) b) l.places ≡ true → are_below b l.rows.items ≡ true)
