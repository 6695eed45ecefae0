-- How a program ends, and its exit status.
use Rattle.std.specs.Prelude.{ℕ, Bool, true, false}
use Rattle.kapi_files.specs.declared.ending.Ending.{Ending}
use Rattle.kapi_files.specs.declared.ending.Ending.TheVariants as ending

abbrev pub status_of : Ending → ℕ
status_of ending.Done = 0
status_of ending.Differs = 1
status_of ending.Stopped = 1
status_of ending.Doubted = 1
status_of ending.Unsettled = 4
status_of ending.Misused = 2
status_of ending.Gains = 3
status_of ending.Dangles = 3
status_of ending.Differing = 3
status_of ending.Unheard = 3
status_of ending.Adrift = 4

-- a comparison ends by whether somebody gains
abbrev pub compared_as : Bool → Ending
compared_as true = ending.Gains
compared_as false = ending.Done

-- transcripts that were played end by whether every answer is as wanted
abbrev pub played_as : Bool → Ending
played_as true = ending.Done
played_as false = ending.Differs
