use Rattle.std.proofs.Common.{◌≡◌, take}
use Rattle.kapi_index.specs.Prepared.{groups_of}
use Rattle.kapi_index.proofs.keys.groups.Given as goal

abbrev pub invariant-loop-subject : goal.invariant-loop-subject
invariant-loop-subject l = l.list.items ≡ groups_of (take l.subject-index l.subjects)
