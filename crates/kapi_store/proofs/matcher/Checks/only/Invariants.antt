use Rattle.std.proofs.Common.{◌≡◌, ◌&&◌, ℕ, List, take}
use Rattle.kapi_model.specs.Selector.{is_listed}
use Rattle.kapi_store.specs.Private.Matching.{passes}
use Rattle.kapi_store.proofs.matcher.Checks.only.Given as goal

abbrev pub invariant-loop-value : goal.invariant-loop-value
invariant-loop-value l = (v : List ℕ) → passes l.checks v ≡ (is_listed (take l.value-index l.listed) v && passes l.self v)
