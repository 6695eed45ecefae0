use Rattle.std.proofs.Common.{refl}
use Rattle.kapi_rules.specs.Atoms.{atoms}
use Rattle.kapi_rules.specs.Missing.{each_once, missing, rule_implies}
use Rattle.kapi_rules.proofs.laws.resources_with_slashes_are_not_covered.Goals as goal

pub returns-clause-covered : goal.returns-clause-covered
unfolding missing each_once rule_implies atoms
returns-clause-covered c = refl
