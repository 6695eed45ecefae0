use Rattle.std.proofs.Common.{◌≡◌, ℕ, List, Some, length}
use Rattle.kapi_script.specs.Scripts.{lines}
use Rattle.kapi_audit.specs.Private.Reading.{Reading}
use Rattle.kapi_audit.proofs.answering.answer_all.Given as goal

abbrev pub invariant-loop : goal.invariant-loop
invariant-loop g l =
    ((text : List ℕ) → g.R.Read.remaining l.initial.reader ≡ Some text
    → (rest : List ℕ) × (g.R.Read.remaining l.reader ≡ Some rest)
    × Reading l.row l.initial.seat (lines text) rest l.line.items l.seat (g.W.Write.contents l.initial.writer) (g.W.Write.contents l.writer))
    × (length l.buffer ≡ length l.initial.buffer)
