use Rattle.std.proofs.Common.{◌≡◌, map, take}
use Rattle.kapi_reply.specs.Views.{cause_data}
use Rattle.kapi_reply.specs.Status.{invalid_field}
use Rattle.kapi_reply.proofs.status.invalid_fields.Given as goal

abbrev pub invariant-loop-fault : goal.invariant-loop-fault
invariant-loop-fault l = map cause_data l.causes.items ≡ map invalid_field (take l.fault-index l.faults)
