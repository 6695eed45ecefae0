use Rattle.std.proofs.Common.{◌≡◌, [], drop, map}
use Rattle.kapi_lines.specs.Lines.{line_of}
use Rattle.kapi_suggest.specs.Events.{uses_in}
use Rattle.kapi_suggest.proofs.event.read_events.Given as goal

-- the lines that are left give the rest
abbrev pub invariant-loop-line : goal.invariant-loop-line
invariant-loop-line l = uses_in l.uses.items (map line_of (drop l.line-index l.lines)) ≡ uses_in [] (map line_of l.lines)
