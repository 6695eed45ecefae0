use Rattle.std.proofs.Common.{arith, rules}
use Rattle.kapi_lines.proofs.Parts.{no_end_yet, whole_line}
use Rattle.kapi_lines.proofs.line.split_line.Goals as goal

pub loop-end-preserved : goal.loop-end-preserved
loop-end-preserved c = no_end_yet c.args.text.now c.loop-end.end c.loop-end.invariant c.loop-end-test.true (search rules)

pub returns-clause-none : goal.returns-clause-none
returns-clause-none c = λ _. whole_line c.args.text.now c.loop-end.end c.loop-end.invariant (omega (arith, c.loop-end-test.false))
