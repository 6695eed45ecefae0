use Rattle.std.proofs.Common.{◌≡◌, drop}
use Rattle.kapi.specs.Lines.{line_length}
use Rattle.kapi.proofs.bounded_lines.length_after.Given as goal

abbrev pub invariant-loop-byte : goal.invariant-loop-byte
invariant-loop-byte l = line_length l.length (drop l.byte-index l.bytes) ≡ line_length l.length-2 l.bytes
