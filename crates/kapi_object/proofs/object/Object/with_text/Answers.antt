-- A text set in the metadata brings in no float, and leaves the keys in order.
use Rattle.std.specs.Prelude.{string_bytes}
use Rattle.serde_json.specs.View.{view}
use Rattle.kapi_object.proofs.Closed.{with_text_holds}
use Rattle.kapi_object.proofs.Depths.{no_deeper}
use Rattle.kapi_object.proofs.NoFloats.{no_floats}
use Rattle.kapi_object.proofs.Ordered.{keys_in_order}
use Rattle.kapi_object.proofs.object.Object.with_text.Goals as goal

pub invariant_of-result : goal.invariant_of-result
invariant_of-result c = record {
  whole = rw c.in_ok-with_text.ensures (with_text_holds no_floats 125 c.args.key.now (string_bytes c.args.text) (view c.args.self.tree) c.args.self.whole);
  ordered = rw c.in_ok-with_text.ensures (with_text_holds keys_in_order 125 c.args.key.now (string_bytes c.args.text) (view c.args.self.tree) c.args.self.ordered);
  nests = rw c.in_ok-with_text.ensures (with_text_holds no_deeper 125 c.args.key.now (string_bytes c.args.text) (view c.args.self.tree) c.args.self.nests);
}
