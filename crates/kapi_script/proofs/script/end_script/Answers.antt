use Rattle.std.proofs.Common.{[]}
use Rattle.kapi_script.proofs.Bytes.{last_line, ended}
use Rattle.kapi_script.proofs.script.end_script.Goals as goal

pub returns : goal.returns
returns g c = λ all before h.
    ended all before _ c.play_line.new.core _ c.play_line.result (c.play_line.ensures all [] before (last_line all before c.as_slice.result.now c.args.core.now c.args.script.now _ c.as_slice.ensures.value h))
