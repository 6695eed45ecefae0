use Rattle.kapi_lines.specs.Escapes.{escaped_byte}
use Rattle.kapi_lines.proofs.Appending.{appends_nothing, appends_byte}
use Rattle.kapi_lines.proofs.escape.write_escaped.Goals as goal

pub loop-byte-init : goal.loop-byte-init
loop-byte-init g c = appends_nothing _

pub loop-byte-preserved : goal.loop-byte-preserved
loop-byte-preserved g c =
    appends_byte _ _ _ escaped_byte _ _ c.loop-byte-test.true c.loop-byte.invariant c.in_ok-write_escaped_byte.ensures
