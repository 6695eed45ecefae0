use Rattle.std.proofs.Common.{◌≡◌, ◌++◌, replicate}
use Rattle.kapi_report.proofs.columns.push_spaces.Given as goal

-- the spaces that are written so far
abbrev pub invariant-loop : goal.invariant-loop
invariant-loop l = l.text.items ≡ l.initial.text.items ++ replicate l.counter 32
