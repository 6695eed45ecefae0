use Rattle.std.proofs.Common.{◌≡◌, drop, map}
use Rattle.std.specs.List.{enumerate_from}
use Rattle.kapi_policy.specs.Decided.{first_some}
use Rattle.kapi_paths.specs.Printed.{reason, reason_in}
use Rattle.kapi_paths.specs.Rights.{row_of}
use Rattle.kapi_paths.proofs.printed.first_reason.Given as goal

abbrev pub invariant-loop-rule : goal.invariant-loop-rule
invariant-loop-rule g l =
    first_some (reason_in l.asked.known.now (map row_of l.asked.rights.now) l.place l.to) (enumerate_from l.rule (drop l.rule l.rules))
    ≡ reason (g.P.Policy.content l.asked.policy.now) l.asked.known.now (map row_of l.asked.rights.now) l.role l.to
