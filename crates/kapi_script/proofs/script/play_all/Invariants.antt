use Rattle.std.proofs.Common.{◌≡◌, ℕ, ◌*◌, ◌≤◌, List, Some, length}
use Rattle.kapi_script.specs.Private.Playing.{Play, Reading}
use Rattle.kapi_script.proofs.script.play_all.Given as goal

abbrev pub invariant-loop : goal.invariant-loop
invariant-loop g l =
    ((all : Play) (unread before : List ℕ) → g.R.Read.remaining l.initial.reader ≡ Some unread
    → Reading all unread l.initial.core l.initial.script before (g.W.Write.contents l.initial.writer)
    → (rest : List ℕ) × (g.R.Read.remaining l.reader ≡ Some rest) × Reading all rest l.core l.script before (g.W.Write.contents l.writer))
    × (l.script.lines ≤ l.counter * 65536)
    × (length l.buffer ≡ length l.initial.buffer)
