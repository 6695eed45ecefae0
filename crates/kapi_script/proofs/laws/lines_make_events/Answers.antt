use Rattle.std.specs.Prelude.{◌≡◌, Bool, true, false, refl}
use Rattle.kapi_core.specs.Machine.{Machine, after}
use Rattle.kapi_script.specs.Gains.{made_by}
use Rattle.kapi_script.specs.Scripts.{Line, after_line, bad, skipped, told}
use Rattle.kapi_script.proofs.laws.lines_make_events.Goals as goal

same_machine : (l : Line) (refused : Bool) (m : Machine) → after_line l refused m ≡ after m (made_by l refused)
unfolding after
same_machine skipped refused m = refl
same_machine bad refused m = refl
same_machine (told e) false m = refl
same_machine (told e) true m = refl

pub returns : goal.returns
returns c = same_machine
