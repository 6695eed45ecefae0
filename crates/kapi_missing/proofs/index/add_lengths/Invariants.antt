use Rattle.std.proofs.Common.{◌≡◌, ℕ, List, length, take, true}
use Rattle.std.specs.List.{list_any}
use Rattle.kapi_missing.specs.Private.Index.{is_beginning}
use Rattle.kapi_missing.specs.Private.Numbers.{has_number}
use Rattle.kapi_missing.proofs.index.add_lengths.Given as goal

abbrev pub invariant-loop-entry : goal.invariant-loop-entry
invariant-loop-entry l = ((n : ℕ) → has_number l.initial.lengths.items n ≡ true → has_number l.lengths.items n ≡ true)
    × ((text : List ℕ) → list_any (is_beginning text) (take l.entry-index l.entries) ≡ true → has_number l.lengths.items (length text) ≡ true)
