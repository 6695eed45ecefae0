-- Another's status brings in no float, and leaves the keys in order.
use Rattle.std.proofs.Common.{codes}
use Rattle.serde_json.specs.View.{view}
use Rattle.kapi_object.proofs.Closed.{with_member_of_holds}
use Rattle.kapi_object.proofs.Depths.{no_deeper}
use Rattle.kapi_object.proofs.NoFloats.{no_floats}
use Rattle.kapi_object.proofs.Ordered.{keys_in_order}
use Rattle.kapi_object.proofs.object.Object.with_status_of.Goals as goal

pub invariant_of-result : goal.invariant_of-result
invariant_of-result c = record {
  whole = rw c.in_ok-with_member_of.ensures (with_member_of_holds no_floats 126 (codes "status") (view c.args.other.now.tree) (view c.args.self.tree) c.args.other.now.whole c.args.self.whole);
  ordered = rw c.in_ok-with_member_of.ensures (with_member_of_holds keys_in_order 126 (codes "status") (view c.args.other.now.tree) (view c.args.self.tree) c.args.other.now.ordered c.args.self.ordered);
  nests = rw c.in_ok-with_member_of.ensures (with_member_of_holds no_deeper 126 (codes "status") (view c.args.other.now.tree) (view c.args.self.tree) c.args.other.now.nests c.args.self.nests);
}
