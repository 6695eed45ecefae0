use Rattle.std.proofs.Common.{◌≡◌, ◌++◌, drop, map}
use Rattle.kapi_paths.specs.Printed.{steps, steps_of}
use Rattle.kapi_paths.specs.Rights.{row_of}
use Rattle.kapi_paths.proofs.printed.steps.Given as goal

abbrev pub invariant-loop-to : goal.invariant-loop-to
invariant-loop-to g l =
    l.list.items ++ steps (g.P.Policy.content l.asked.policy.now) l.asked.bindings.now l.asked.known.now (map row_of l.asked.rights.now) l.binding l.from (drop l.to-index l.to-items)
    ≡ steps_of (g.P.Policy.content l.asked.policy.now) l.asked.bindings.now l.asked.known.now (map row_of l.asked.rights.now) l.path
