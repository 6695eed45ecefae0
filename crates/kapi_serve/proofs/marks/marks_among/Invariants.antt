use Rattle.std.proofs.Common.{◌≡◌, Some, length, take}
use Rattle.kapi_serve.specs.Private.ClientsMatch.{AreMarked}
use Rattle.kapi_serve.proofs.marks.marks_among.Given as goal

-- the numbers before this one are marked
abbrev pub invariant-loop-index : goal.invariant-loop-index
invariant-loop-index l = (length l.marks ≡ 64) × AreMarked (Some (take l.index l.numbers)) l.marks
