use Rattle.std.proofs.Common.{sym, append_assoc, arith}
use Rattle.kapi_reviews.specs.Faults.{resource_member_faults}
use Rattle.kapi_reviews.proofs.faults.Review.push_resource_members.Goals as goal

pub returns : goal.returns
unfolding resource_member_faults
returns c =
    rw (sym c.is_right_namespace-namespace.ensures, sym c.any_or-namespace.ensures, sym c.is_right_resource.ensures, sym c.any_or-resource.ensures, sym c.is_right_subresource.ensures, sym c.any_or-subresource.ensures)
    grind (arith, append_assoc)
