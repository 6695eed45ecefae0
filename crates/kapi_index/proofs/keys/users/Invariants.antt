use Rattle.std.proofs.Common.{◌≡◌, take}
use Rattle.kapi_index.specs.Prepared.{users_of}
use Rattle.kapi_index.proofs.keys.users.Given as goal

abbrev pub invariant-loop-subject : goal.invariant-loop-subject
invariant-loop-subject l = l.list.items ≡ users_of l.namespace (take l.subject-index l.subjects)
