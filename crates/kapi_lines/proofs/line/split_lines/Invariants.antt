use Rattle.std.proofs.Common.{◌≡◌, ◌++◌, length}
use Rattle.kapi_lines.specs.Lines.{parts_of}
use Rattle.kapi_lines.proofs.line.split_lines.Given as goal

abbrev pub invariant-loop-line : goal.invariant-loop-line
invariant-loop-line l = l.lines.items ++ parts_of l.rest ≡ parts_of l.text

abbrev pub decreases-loop-line : goal.decreases-loop-line
decreases-loop-line l = length l.rest
