use Rattle.std.proofs.Common.{◌≡◌, length}
use Rattle.kapi_rules.specs.Atoms.{after_slash}
use Rattle.kapi_access.proofs.gained.ends_at_slash.Given as goal

abbrev pub invariant-loop-rest : goal.invariant-loop-rest
invariant-loop-rest l = after_slash l.rest ≡ after_slash l.text

abbrev pub decreases-loop-rest : goal.decreases-loop-rest
decreases-loop-rest l = length l.rest
