use Rattle.std.proofs.Common.{◌≡◌, ℕ, List, take}
use Rattle.std.specs.List.{list_all}
use Rattle.kapi_store.specs.Private.Matching.{lets, passes_at}
use Rattle.kapi_store.proofs.matcher.checks_of.Given as goal

abbrev pub invariant-loop-requirement : goal.invariant-loop-requirement
invariant-loop-requirement l =
    (key v : List ℕ) → passes_at l.keys key v ≡ list_all (λ r. lets r key v) (take l.requirement-index l.requirements)
