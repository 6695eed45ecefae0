use Rattle.std.proofs.Common.{◌≡◌, ◌==◌, length, map}
use Rattle.std.specs.List.{list_any}
use Rattle.kapi_lines.specs.Lines.{line_of}
use Rattle.kapi_loading.proofs.questions.line_at.Given as goal

abbrev pub invariant-loop-rest : goal.invariant-loop-rest
invariant-loop-rest l = list_any (λ n. n.number == l.number) (map line_of l.rest) ≡ list_any (λ n. n.number == l.number) (map line_of l.lines)

abbrev pub decreases-loop-rest : goal.decreases-loop-rest
decreases-loop-rest l = length l.rest
