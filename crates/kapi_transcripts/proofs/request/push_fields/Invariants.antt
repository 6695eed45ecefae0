use Rattle.std.proofs.Common.{◌≡◌, ◌++◌, length, map}
use Rattle.kapi_lines.specs.Lines.{line_of}
use Rattle.kapi_transcripts.specs.Fields.{field_lines}
use Rattle.kapi_transcripts.proofs.request.push_fields.Given as goal

abbrev pub invariant-loop-rest : goal.invariant-loop-rest
invariant-loop-rest l = l.text.items ++ field_lines (map line_of l.rest) ≡ l.initial.text.items ++ field_lines (map line_of l.later)

abbrev pub decreases-loop-rest : goal.decreases-loop-rest
decreases-loop-rest l = length l.rest
