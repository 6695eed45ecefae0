use Rattle.kapi_script.specs.Scripts.{lines}
use Rattle.kapi_script.proofs.Bytes.{at_start}
use Rattle.kapi_script.proofs.Ends.{played_to_end, stopped_at}
use Rattle.kapi_script.proofs.script.play_script.Goals as goal

pub returns-clause-played : goal.returns-clause-played
returns-clause-played g c = λ m text before stands r w.
    played_to_end m text before _ _
    (c.play_all.ensures.ends (record { begun = m; lines = lines text }) text before r
    (at_start m text before c.new.result.items c.args.core.now _ c.new.ensures.items stands w))

pub returns-clause-bad : goal.returns-clause-bad
returns-clause-bad g c = λ m text before number reason stands r w.
    stopped_at m text before _ number reason _
    (c.play_all.ensures.ends (record { begun = m; lines = lines text }) text before r
    (at_start m text before c.new.result.items c.args.core.now _ c.new.ensures.items stands w))
