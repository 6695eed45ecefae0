use Rattle.std.proofs.Common.{◌≡◌, ◌++◌, map}
use Rattle.kapi_access.specs.Given.{lines_within}
use Rattle.kapi_access.proofs.rights.rights_within.Given as goal

-- with the lines that are left all are there
abbrev pub invariant-loop-at : goal.invariant-loop-at
invariant-loop-at l = map (λ r. (r.at.now, r.by.now)) l.rows.items ++ lines_within l.within l.at-iterator ≡ lines_within l.within l.lines.entries
