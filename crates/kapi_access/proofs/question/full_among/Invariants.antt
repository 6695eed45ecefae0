use Rattle.std.proofs.Common.{◌≡◌, drop, map}
use Rattle.kapi_access.specs.Questions.{full_among, kind_of}
use Rattle.kapi_access.proofs.question.full_among.Given as goal

abbrev pub invariant-loop-kind : goal.invariant-loop-kind
invariant-loop-kind l = full_among (map kind_of (drop l.kind-index l.kinds)) l.word l.group ≡ full_among (map kind_of l.kinds) l.word l.group
