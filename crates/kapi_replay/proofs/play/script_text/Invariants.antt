use Rattle.std.proofs.Common.{◌≡◌, take}
use Rattle.kapi_replay.specs.Failures.{script_text}
use Rattle.kapi_replay.proofs.play.script_text.Given as goal

abbrev pub invariant-loop-event : goal.invariant-loop-event
invariant-loop-event l = l.text.items ≡ script_text (take l.event-index l.script)
