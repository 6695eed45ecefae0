use Rattle.std.proofs.Common.{◌≡◌, ◌++◌, map, ◌+◌, ◌≤◌, length}
use Rattle.kapi_lines.specs.Lines.{line_of, lines_of, numbered_from, parts_of}
use Rattle.kapi_lines.proofs.line.numbered_lines.Given as goal

abbrev pub invariant-loop-line : goal.invariant-loop-line
invariant-loop-line l =
    (map line_of l.lines.items ++ numbered_from l.number (parts_of l.rest) ≡ lines_of l.text)
    × (l.number + length l.rest ≤ length l.text + 1)

abbrev pub decreases-loop-line : goal.decreases-loop-line
decreases-loop-line l = length l.rest
