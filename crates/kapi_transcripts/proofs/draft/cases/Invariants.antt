use Rattle.std.proofs.Common.{◌≡◌, ◌++◌, length, map}
use Rattle.kapi_lines.specs.Lines.{line_of}
use Rattle.kapi_transcripts.specs.Cases.{cases_from, cases_of, draft_of}
use Rattle.kapi_transcripts.proofs.draft.cases.Given as goal

abbrev pub invariant-loop-rest : goal.invariant-loop-rest
invariant-loop-rest l = l.cases.items ++ cases_from (draft_of l.draft) (map line_of l.rest) ≡ cases_of (map line_of l.lines)

abbrev pub decreases-loop-rest : goal.decreases-loop-rest
decreases-loop-rest l = length l.rest
