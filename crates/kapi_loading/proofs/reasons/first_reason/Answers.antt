use Rattle.std.proofs.Common.{arith, sym}
use Rattle.kapi_loading.proofs.Unloaded.{all_loaded, line_loaded, line_refused}
use Rattle.kapi_loading.proofs.reasons.first_reason.Goals as goal

pub loop-line-preserved : goal.loop-line-preserved
loop-line-preserved c = λ m h.
    line_loaded m c.args.lines.now c.loop-line.line-index _ c.loop-line.core c.load.new.self _ c.loop-line-test.true (c.loop-line.invariant m h) c.in-Ok.ensures

pub returns-in-Err-clause-bad : goal.returns-in-Err-clause-bad
returns-in-Err-clause-bad c = λ m h.
    sym (line_refused m c.args.lines.now c.loop-line.line-index _ c.loop-line.core c.load.new.self c.in-Err.error c.loop-line-test.true (c.loop-line.invariant m h) c.in-Err.ensures c.in_ok-line_reason-in-Err.ensures.fault)

pub returns-clause-bad : goal.returns-clause-bad
returns-clause-bad c = λ m h. sym (all_loaded m c.args.lines.now c.loop-line.line-index c.loop-line.core (omega (arith, c.loop-line-test.false)) (c.loop-line.invariant m h))
