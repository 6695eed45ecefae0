use Rattle.std.proofs.Common.{take}
use Rattle.kapi_core.proofs.Runs.{Ran}
use Rattle.kapi_core.proofs.machine.Core.run.Given as goal

abbrev pub invariant-loop-event : goal.invariant-loop-event
invariant-loop-event g l = Ran l.initial.self l.self l.answers.items (take l.event-index l.events)
