use Rattle.std.proofs.Common.{◌≡◌, drop}
use Rattle.std.specs.List.{enumerate_from}
use Rattle.kapi_access.specs.Dangling.{first_for}
use Rattle.kapi_access.proofs.dangling.first_for.Given as goal

abbrev pub invariant-loop-place : goal.invariant-loop-place
invariant-loop-place l = first_for l.index l.rule (enumerate_from l.place (drop l.place l.rules)) ≡ first_for l.index l.rule (enumerate_from 0 l.rules)
