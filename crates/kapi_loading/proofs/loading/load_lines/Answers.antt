use Rattle.std.proofs.Common.{arith}
use Rattle.kapi_loading.proofs.Loaded.{all_loaded, line_loaded, line_refused}
use Rattle.kapi_loading.proofs.loading.load_lines.Goals as goal

pub loop-line-preserved : goal.loop-line-preserved
loop-line-preserved g c = λ seat m stands follows.
    line_loaded (g.S.Steps.Follows seat c.loop-line.steps) (g.S.Steps.Follows seat c.take.new.self) m c.args.lines.now c.loop-line.line-index _ c.loop-line.core c.load.new.self _ c.loop-line-test.true
    (c.loop-line.invariant seat m stands follows) c.in-Ok.ensures (λ objects h. c.in_ok-take-in-Ok.ensures seat objects h)

pub returns-in-Err : goal.returns-in-Err
returns-in-Err g c = λ seat m stands follows.
    line_refused (g.S.Steps.Follows seat c.loop-line.steps) m c.args.lines.now c.loop-line.line-index _ c.loop-line.core c.load.new.self c.in-Err.error _ c.loop-line-test.true
    (c.loop-line.invariant seat m stands follows) c.in-Err.ensures c.fault_at.ensures

pub returns : goal.returns
returns g c = λ seat m stands follows.
    all_loaded (g.S.Steps.Follows seat c.loop-line.steps) m c.args.lines.now c.loop-line.line-index c.loop-line.core (omega (arith, c.loop-line-test.false)) (c.loop-line.invariant seat m stands follows)
