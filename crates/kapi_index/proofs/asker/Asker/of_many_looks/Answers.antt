use Rattle.std.proofs.Common.{subst}
use Rattle.std.specs.List.Sorted.{IsSorted}
use Rattle.kapi_policy.specs.Objects.{name_cmp}
use Rattle.kapi_index.proofs.Ordered.{known}
use Rattle.kapi_index.proofs.asker.Asker.of_many_looks.Goals as goal

pub invariant_of-result : goal.invariant_of-result
invariant_of-result c = record { ordered = λ is. subst (IsSorted name_cmp) c.as_slice.ensures (known c.are_many_in_order-in_order.result c.are_many_in_order-in_order.ensures is) }
