use Rattle.std.proofs.Common.{[], arith, map}
use Rattle.kapi_lines.specs.Lines.{line_of}
use Rattle.kapi_suggest.specs.Events.{uses_in}
use Rattle.kapi_suggest.proofs.Shows.{reading_all, reading_bad, reading_more}
use Rattle.kapi_suggest.proofs.event.read_events.Goals as goal

pub loop-line-preserved : goal.loop-line-preserved
loop-line-preserved c =
    reading_more c.args.lines.now c.loop-line.line-index c.loop-line.uses.items (uses_in [] (map line_of c.args.lines.now)) c.loop-line.invariant _ _ c.loop-line-test.true c.in-Ok.ensures

pub returns-in-Err : goal.returns-in-Err
returns-in-Err c =
    reading_bad c.args.lines.now c.loop-line.line-index c.loop-line.uses.items (uses_in [] (map line_of c.args.lines.now)) c.loop-line.invariant _ _ c.loop-line-test.true c.in-Err.ensures

pub returns : goal.returns
returns c =
    reading_all c.args.lines.now c.loop-line.line-index c.loop-line.uses.items (uses_in [] (map line_of c.args.lines.now)) c.loop-line.invariant (omega (arith, c.loop-line-test.false))
