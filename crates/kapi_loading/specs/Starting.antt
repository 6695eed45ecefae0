-- What a load and a start return.
use Rattle.std.specs.Prelude.{◌≡◌, Result, Ok, Err}
use Rattle.kapi_text.specs.ResultIs.{Fails}
use Rattle.kapi_core.specs.Machine.{Machine}
use Rattle.kapi_core.specs.Running.{Running}
use Rattle.kapi_core.specs.Refines.{Refines}
use Rattle.kapi_loading.specs.Faults.{FileFault, model_of_fault}
use Rattle.kapi_loading.specs.Loading.{Publishes}
use Rattle.kapi_loading.specs.declared.fault.StartError.{StartError}
use Rattle.kapi_loading.specs.declared.starting.Started.{Started}

-- a core that refines the given machine, or why no machine is given
abbrev pub Holds : Result Running StartError → Result Machine FileFault → Type 0
Holds (Ok core) given = (m : Machine) × (given ≡ Ok m) × Refines core m
Holds (Err e) given = Fails (model_of_fault e) given

-- a core that refines the given machine, whose policy the desk has published, or why no machine is given
abbrev pub Starts : Result Started StartError → Result Machine FileFault → Type 0
Starts (Ok s) given = (m : Machine) × (given ≡ Ok m) × Publishes s.core s.desk m
Starts (Err e) given = Fails (model_of_fault e) given
