use Rattle.std.proofs.Common.{◌≡◌, take}
use Rattle.std.specs.List.{flat_map}
use Rattle.kapi_access.specs.Grantees.{whom}
use Rattle.kapi_access.proofs.grantee.grantees_in.Given as goal

abbrev pub invariant-loop-subject : goal.invariant-loop-subject
invariant-loop-subject l = l.list.items ≡ flat_map (whom l.namespace) (take l.subject-index l.subjects)
