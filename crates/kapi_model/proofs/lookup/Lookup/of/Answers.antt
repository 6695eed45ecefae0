use Rattle.kapi_model.proofs.Ordered.{known}
use Rattle.kapi_model.proofs.lookup.Lookup.of.Goals as goal

pub invariant_of-result : goal.invariant_of-result
invariant_of-result c = record { ordered = known c.are_in_order-in_order.result c.are_in_order-in_order.ensures }
