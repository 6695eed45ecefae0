use Rattle.kapi_replay.proofs.Played.{loaded}
use Rattle.kapi_replay.proofs.play.play_loaded.Goals as goal

pub returns-in-Ok : goal.returns-in-Ok
returns-in-Ok g c =
    let s = c.in-Ok.ensures.machine in
    loaded (λ v. v.items) c.play_on-failures.result s.0 c.args.case.now c.args.load.now _ s.1 (c.play_on-failures.ensures s.0 s.2.0)
