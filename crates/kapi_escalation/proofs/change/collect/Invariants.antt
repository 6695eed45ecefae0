use Rattle.std.proofs.Common.{◌≡◌, map, take}
use Rattle.kapi_store.specs.Plain.{plain_change}
use Rattle.kapi_escalation.proofs.change.collect.Given as goal
use Rattle.kapi_escalation.specs.Reading.{policy_changes}

abbrev pub invariant-loop-change : goal.invariant-loop-change
invariant-loop-change l = l.found.items ≡ policy_changes (map plain_change (take l.change-index l.changes))
