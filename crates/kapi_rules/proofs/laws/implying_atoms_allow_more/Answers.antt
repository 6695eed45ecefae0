use Rattle.kapi_rules.proofs.Covers.{implies_allows}
use Rattle.kapi_rules.proofs.laws.implying_atoms_allow_more.Goals as goal

pub returns : goal.returns
returns c = implies_allows
