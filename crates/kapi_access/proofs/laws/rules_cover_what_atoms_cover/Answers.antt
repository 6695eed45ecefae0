use Rattle.kapi_access.proofs.ByRule.{atoms_cover, rules_cover}
use Rattle.kapi_access.proofs.laws.rules_cover_what_atoms_cover.Goals as goal

pub returns-clause-rules : goal.returns-clause-rules
returns-clause-rules c = λ gains identity namespace p. rules_cover identity namespace p gains

pub returns-clause-atoms : goal.returns-clause-atoms
returns-clause-atoms c = λ gains identity namespace p. atoms_cover identity namespace p gains
