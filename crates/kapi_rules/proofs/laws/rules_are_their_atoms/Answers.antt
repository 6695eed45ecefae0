use Rattle.kapi_rules.proofs.Covers.{alone_allows}
use Rattle.kapi_rules.proofs.Parts.{allowed_by_atom}
use Rattle.kapi_rules.proofs.laws.rules_are_their_atoms.Goals as goal

pub returns-clause-parts : goal.returns-clause-parts
returns-clause-parts c = allowed_by_atom

pub returns-clause-alone : goal.returns-clause-alone
returns-clause-alone c = alone_allows
