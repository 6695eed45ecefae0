use Rattle.kapi_script.proofs.Lined.{stopped, gone}
use Rattle.kapi_script.proofs.script.play_line.Goals as goal

pub returns-in-Bad : goal.returns-in-Bad
returns-in-Bad g c = λ all rest before h.
    stopped all rest c.args.lines c.args.core.now c.play-played.new.core c.args.line.now before c.play-played.result c.in-Bad.reason _ c.play-played.ensures c.in-Bad.is h

pub returns : goal.returns
returns g c = λ all rest before h.
    gone all rest c.args.lines c.args.core.now c.play-played.new.core c.args.line.now before c.play-played.result _ _ c.write_played.result c.play-played.ensures
    c.in_default.not-Bad c.write_played.ensures.text c.write_played.ensures.fault h
