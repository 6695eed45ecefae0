use Rattle.kapi_policy.proofs.Sets.{change_keeps, none_in_order}
use Rattle.kapi_policy.proofs.laws.changes_keep_the_order.Goals as goal

pub returns-clause-none : goal.returns-clause-none
returns-clause-none c = none_in_order

pub returns-clause-kept : goal.returns-clause-kept
returns-clause-kept c = change_keeps
