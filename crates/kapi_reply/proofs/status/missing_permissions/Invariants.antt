use Rattle.std.proofs.Common.{◌≡◌, map, take}
use Rattle.kapi_reply.specs.Views.{cause_data}
use Rattle.kapi_reply.specs.Status.{missing_permission}
use Rattle.kapi_reply.proofs.status.missing_permissions.Given as goal

abbrev pub invariant-loop-point : goal.invariant-loop-point
invariant-loop-point l = map cause_data l.causes.items ≡ map missing_permission (take l.point-index l.points)
