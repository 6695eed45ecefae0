use Rattle.std.proofs.Common.{◌≡◌, ◌++◌, ◌≤◌, ◌+◌, drop}
use Rattle.kapi_manifests.specs.Places.{depth_of}
use Rattle.kapi_manifests.specs.Pieces.{spans_from, spans_of}
use Rattle.kapi_manifests.proofs.cut.spans.Given as goal

abbrev pub invariant-loop-byte : goal.invariant-loop-byte
invariant-loop-byte l = record {
  found : l.spans.items ++ spans_from l.cursor (drop l.byte-index l.text) ≡ spans_of l.text;
  at : l.cursor.here.at ≡ l.byte-index;
  line : l.cursor.here.line ≤ l.cursor.here.at + 1;
  depth : depth_of l.cursor.place ≤ l.cursor.here.at;
}
