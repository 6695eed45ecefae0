use Rattle.std.proofs.Common.{take}
use Rattle.std.specs.Io.KnownBytes.{Appends}
use Rattle.kapi_lines.specs.Escapes.{escaped}
use Rattle.kapi_lines.proofs.escape.write_escaped.Given as goal

abbrev pub invariant-loop-byte : goal.invariant-loop-byte
invariant-loop-byte g l = Appends (g.W.Write.contents l.initial.writer) (g.W.Write.contents l.writer) (escaped (take l.byte-index l.bytes))
