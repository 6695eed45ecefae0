use Rattle.std.proofs.Common.{◌≡◌, map}
use Rattle.kapi_access.specs.Answers.{besides_masters}
use Rattle.kapi_access.specs.Views.{way_of}
use Rattle.kapi_access.proofs.answer.besides_masters.Given as goal

-- the ways of all others so far
abbrev pub invariant-loop-way : goal.invariant-loop-way
invariant-loop-way l = map way_of l.list.items ≡ besides_masters (map way_of l.yielded)
