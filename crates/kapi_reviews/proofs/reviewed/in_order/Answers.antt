use Rattle.std.proofs.Common.{subst, sym}
use Rattle.std.specs.List.Sorted.{IsPermutation}
use Rattle.kapi_reviews.proofs.Members.{decided_in_order}
use Rattle.kapi_reviews.proofs.reviewed.in_order.Goals as goal

pub returns : goal.returns
returns c =
    decided_in_order c.args.identity c.into_vec-groups.result.items c.new.result c.into_vec-groups.ensures
    (subst (IsPermutation c.into_vec-groups.result.items) (sym c.new.ensures) c.sort_unstable.ensures.permutation)
