use Rattle.std.proofs.Common.{◌≡◌, ◌==◌, false, All, take}
use Rattle.kapi_lines.proofs.line.split_line.Given as goal

abbrev pub invariant-loop-end : goal.invariant-loop-end
invariant-loop-end l = All (λ b. (b == 10) ≡ false) (take l.end l.text)
