use Rattle.kapi_policy.proofs.Decisions.{decided_there, held_there}
use Rattle.kapi_policy.proofs.laws.namespaces_do_not_count_cluster_wide.Goals as goal

pub returns-clause-held : goal.returns-clause-held
returns-clause-held c = held_there

pub returns-clause-decided : goal.returns-clause-decided
returns-clause-decided c = decided_there
