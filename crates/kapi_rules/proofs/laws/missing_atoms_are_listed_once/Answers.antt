use Rattle.kapi_rules.proofs.Listed.{listed_exactly, listed_once, same_decides}
use Rattle.kapi_rules.proofs.laws.missing_atoms_are_listed_once.Goals as goal

pub returns-clause-same : goal.returns-clause-same
returns-clause-same c = same_decides

pub returns-clause-listed : goal.returns-clause-listed
returns-clause-listed c = listed_exactly

pub returns-clause-once : goal.returns-clause-once
returns-clause-once c = listed_once
