use Rattle.kapi_access.proofs.First.{each_anywhere_once, each_risk_once, each_who_once}
use Rattle.kapi_access.proofs.laws.each_is_listed_once.Goals as goal

pub returns-clause-who : goal.returns-clause-who
returns-clause-who c = each_who_once

pub returns-clause-anywhere : goal.returns-clause-anywhere
returns-clause-anywhere c = each_anywhere_once

pub returns-clause-risks : goal.returns-clause-risks
returns-clause-risks c = each_risk_once
