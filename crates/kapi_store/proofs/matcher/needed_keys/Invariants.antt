use Rattle.std.proofs.Common.{◌≡◌, ℕ, List, Option, take}
use Rattle.std.specs.List.{list_all}
use Rattle.kapi_store.specs.Private.Matching.{are_there, is_there}
use Rattle.kapi_store.proofs.matcher.needed_keys.Given as goal

abbrev pub invariant-loop-requirement : goal.invariant-loop-requirement
invariant-loop-requirement l =
    (at : List ℕ → Option (List ℕ)) → are_there at l.keys.keys ≡ list_all (λ r. is_there r (at r.key)) (take l.requirement-index l.requirements)
