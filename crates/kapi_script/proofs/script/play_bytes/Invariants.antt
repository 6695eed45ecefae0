use Rattle.std.proofs.Common.{ℕ, ◌+◌, ◌≤◌, ◌++◌, List, drop}
use Rattle.kapi_script.specs.Private.Playing.{Play, Reading}
use Rattle.kapi_script.proofs.script.play_bytes.Given as goal

abbrev pub invariant-loop-byte : goal.invariant-loop-byte
invariant-loop-byte g l =
    ((all : Play) (unread before : List ℕ) → Reading all (l.bytes ++ unread) l.initial.core l.initial.script before (g.W.Write.contents l.initial.writer)
    → Reading all (drop l.byte-index l.bytes ++ unread) l.core l.script before (g.W.Write.contents l.writer))
    × (l.script.lines ≤ l.initial.script.lines + l.byte-index)
