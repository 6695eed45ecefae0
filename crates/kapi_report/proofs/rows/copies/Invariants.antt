use Rattle.std.proofs.Common.{◌≡◌, map, take}
use Rattle.kapi_report.proofs.rows.copies.Given as goal

-- the copies so far
abbrev pub invariant-loop-word : goal.invariant-loop-word
invariant-loop-word l = l.cells.items ≡ map (λ s. s.now) (take l.word-index l.words)
