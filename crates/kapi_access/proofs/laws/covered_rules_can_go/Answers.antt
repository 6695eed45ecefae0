use Rattle.kapi_access.proofs.Idle.{each_is_covered, each_is_listed}
use Rattle.kapi_access.proofs.laws.covered_rules_can_go.Goals as goal

pub returns-clause-covered : goal.returns-clause-covered
returns-clause-covered c = each_is_covered

pub returns-clause-listed : goal.returns-clause-listed
returns-clause-listed c = each_is_listed
