use Rattle.std.proofs.Common.{ℕ, ◌++◌, List, Option, drop}
use Rattle.kapi_publishing.specs.Boards.{Chair}
use Rattle.kapi_audit.specs.Private.Reading.{Reading}
use Rattle.kapi_audit.proofs.answering.answer_bytes.Given as goal

abbrev pub invariant-loop-byte : goal.invariant-loop-byte
invariant-loop-byte g l =
    (first : Chair) (all : List (List ℕ)) (unread : List ℕ) (before : Option (List ℕ))
    → Reading l.row first all (l.bytes ++ unread) l.initial.line.items l.initial.seat before (g.W.Write.contents l.initial.writer)
    → Reading l.row first all (drop l.byte-index l.bytes ++ unread) l.line.items l.seat before (g.W.Write.contents l.writer)
