use Rattle.std.proofs.Common.{arith, refl}
use Rattle.kapi_lines.proofs.Parts.{last_kept, line_kept}
use Rattle.kapi_lines.proofs.line.numbered_lines.Goals as goal

pub loop-line-preserved : goal.loop-line-preserved
loop-line-preserved c = let k = c.in-Some.ensures.some in (line_kept _ _ _ _ _ _ _ c.loop-line.invariant.0 k.0 c.in_ok-push_line.ensures, omega (arith, k.1, c.loop-line.invariant.1))

pub returns : goal.returns
returns c = last_kept _ _ _ _ _ _ c.loop-line.invariant.0 (c.in_default.ensures.none refl) c.in_ok-push_line-2.ensures
