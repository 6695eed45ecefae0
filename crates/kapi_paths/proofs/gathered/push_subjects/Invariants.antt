use Rattle.std.proofs.Common.{◌≡◌, ◌++◌, map, take}
use Rattle.kapi_paths.specs.Steps.{who_is}
use Rattle.kapi_paths.proofs.gathered.push_subjects.Given as goal

abbrev pub invariant-loop-subject : goal.invariant-loop-subject
invariant-loop-subject l = l.list.items ≡ l.initial.list.items ++ map (who_is l.binding.namespace.now) (take l.subject-index l.binding.subjects.now)
