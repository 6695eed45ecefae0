use Rattle.std.proofs.Common.{◌-◌}
use Rattle.kapi_core.specs.Machine.{Machine, policy_of}
use Rattle.kapi_core.specs.Refines.{Refines}
use Rattle.kapi_publishing.specs.Boards.{Chair}
use Rattle.kapi_loading.proofs.Loaded.{TurnedUpTo}
use Rattle.kapi_loading.proofs.loading.make_turns.Given as goal

abbrev pub invariant-loop : goal.invariant-loop
invariant-loop g l =
    (seat : Chair) (m : Machine) → Refines l.initial.core m → g.S.Steps.Follows seat l.initial.steps (policy_of m)
    → TurnedUpTo (g.S.Steps.Follows seat l.steps) m (64 - l.counter) l.core
