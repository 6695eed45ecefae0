use Rattle.kapi_policy.proofs.Decisions.{allowed_where_held}
use Rattle.kapi_policy.proofs.laws.held_rules_are_what_allows.Goals as goal

pub returns : goal.returns
returns c = allowed_where_held
