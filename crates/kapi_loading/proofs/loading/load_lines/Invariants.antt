use Rattle.kapi_core.specs.Machine.{Machine, policy_of}
use Rattle.kapi_core.specs.Refines.{Refines}
use Rattle.kapi_publishing.specs.Boards.{Chair}
use Rattle.kapi_loading.proofs.Loaded.{LoadedUpTo}
use Rattle.kapi_loading.proofs.loading.load_lines.Given as goal

abbrev pub invariant-loop-line : goal.invariant-loop-line
invariant-loop-line g l =
    (seat : Chair) (m : Machine) → Refines l.initial.core m → g.S.Steps.Follows seat l.initial.steps (policy_of m)
    → LoadedUpTo (g.S.Steps.Follows seat l.steps) m l.lines l.line-index l.core
