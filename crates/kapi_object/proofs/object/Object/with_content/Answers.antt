-- Content without floats and in order, beside members of such an object.
use Rattle.std.proofs.Common.{arith}
use Rattle.serde_json.specs.View.{view, members_view}
use Rattle.kapi_object.proofs.Closed.{with_content_holds}
use Rattle.kapi_object.proofs.Depths.{no_deeper}
use Rattle.kapi_object.proofs.NoFloats.{no_floats}
use Rattle.kapi_object.proofs.Ordered.{keys_in_order}
use Rattle.kapi_object.proofs.object.Object.with_content.Goals as goal

pub invariant_of-result : goal.invariant_of-result
invariant_of-result c = record {
  whole = rw c.in_ok-with_content.ensures (with_content_holds no_floats 126 (members_view c.args.content.entries) (view c.args.self.now.tree) c.requires.whole c.args.self.now.whole);
  ordered = rw c.in_ok-with_content.ensures (with_content_holds keys_in_order 126 (members_view c.args.content.entries) (view c.args.self.now.tree) c.requires.ordered c.args.self.now.ordered);
  nests = rw c.in_ok-with_content.ensures (with_content_holds no_deeper 126 (members_view c.args.content.entries) (view c.args.self.now.tree) (omega (arith, c.requires.nests)) c.args.self.now.nests);
}
