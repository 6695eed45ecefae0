use Rattle.std.proofs.Common.{◌≡◌}
use Rattle.kapi_access.specs.Given.{lines_of}
use Rattle.kapi_access.proofs.rights_of.given_lines.Given as goal

abbrev pub invariant-loop-given : goal.invariant-loop-given
invariant-loop-given l = l.lines.entries ≡ lines_of l.yielded
