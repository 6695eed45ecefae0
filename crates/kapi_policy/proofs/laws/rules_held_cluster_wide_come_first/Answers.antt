use Rattle.kapi_policy.proofs.Decisions.{cluster_wide_first}
use Rattle.kapi_policy.proofs.laws.rules_held_cluster_wide_come_first.Goals as goal

pub returns : goal.returns
returns c = cluster_wide_first
