use Rattle.kapi_index.proofs.Ordered.{order_seen}
use Rattle.kapi_index.proofs.asker.are_many_in_order.Goals as goal

pub returns : goal.returns
returns c = order_seen _ _ c.is_sorted.ensures.cases
