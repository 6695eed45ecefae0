use Rattle.std.proofs.Common.{take}
use Rattle.kapi_index.specs.Marks.{AreMarked}
use Rattle.kapi_index.proofs.marks.marks_of.Given as goal

abbrev pub invariant-loop-word : goal.invariant-loop-word
invariant-loop-word l = AreMarked l.marks (take l.word-index l.words)
