-- A member taken out brings in no float, and leaves the keys in order.
use Rattle.std.proofs.Common.{codes}
use Rattle.serde_json.specs.View.{view}
use Rattle.kapi_object.proofs.Closed.{without_member_holds}
use Rattle.kapi_object.proofs.Depths.{no_deeper}
use Rattle.kapi_object.proofs.NoFloats.{no_floats}
use Rattle.kapi_object.proofs.Ordered.{keys_in_order}
use Rattle.kapi_object.proofs.object.Object.without_status.Goals as goal

pub invariant_of-result : goal.invariant_of-result
invariant_of-result c = record {
  whole = rw c.without_member.ensures (without_member_holds no_floats 126 (codes "status") (view c.args.self.tree) c.args.self.whole);
  ordered = rw c.without_member.ensures (without_member_holds keys_in_order 126 (codes "status") (view c.args.self.tree) c.args.self.ordered);
  nests = rw c.without_member.ensures (without_member_holds no_deeper 126 (codes "status") (view c.args.self.tree) c.args.self.nests);
}
