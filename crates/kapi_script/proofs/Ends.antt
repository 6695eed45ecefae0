-- What the end of a script says.
use Rattle.std.proofs.Common.{◌≡◌, ℕ, List, Option, Some, None, Result, Ok, Err, OnOk}
use Rattle.kapi_script.specs.Private.Playing.{Ends}
use Rattle.kapi_core.specs.Machine.{Machine}
use Rattle.kapi_script.specs.Scripts.{IsAnsweredBy, lines}
use Rattle.kapi_script.specs.declared.script.ScriptFault.{ScriptFault}
use Rattle.kapi_script.specs.declared.script.ScriptFault.TheVariants as fault

pub played_to_end : (m : Machine) (text before : List ℕ) (contents : Option (List ℕ)) (result : Result (Unit {0}) ScriptFault)
    → Ends (record { begun = m; lines = lines text }) before contents result → OnOk result (IsAnsweredBy m text before contents None)
played_to_end m text before contents (Ok done) h = h
played_to_end m text before contents (Err e) h = tt

pub stopped_at : (m : Machine) (text before : List ℕ) (contents : Option (List ℕ)) (number : ℕ) (reason : _) (result : Result (Unit {0}) ScriptFault)
    → Ends (record { begun = m; lines = lines text }) before contents result → result ≡ Err (fault.BadLine number reason)
    → IsAnsweredBy m text before contents (Some number)
stopped_at m text before contents number reason result h e = rw e at h
