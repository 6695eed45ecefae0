-- The machine that a server begins with.
use Rattle.std.specs.Prelude.{◌≡◌, ℕ, List, Option, Some, None, Result, Ok, Err}
use Rattle.kapi_command_line.specs.Numbers.{clock_revision}
use Rattle.kapi.specs.declared.beginning.BeginError.{BeginError}
use Rattle.kapi.specs.declared.beginning.BeginError.TheVariants as error
use Rattle.kapi.specs.declared.beginning.Objects.{Objects}
use Rattle.kapi.specs.declared.beginning.Objects.TheVariants as objects
use Rattle.kapi_core.specs.Machine.{Machine}
use Rattle.kapi_loading.specs.Faults.{FileFault}
use Rattle.kapi_loading.specs.Loading.{machine_alone, machine_from}
use Rattle.kapi_loading.specs.Starting.{Starts}
use Rattle.kapi_loading.specs.declared.starting.Started.{Started}
use Rattle.kapi_model.specs.declared.row.ResourceRow.{ResourceRow}

-- the revision after which a server's begin: the one that was specified, else the clock's
abbrev pub first_given : Option ℕ → ℕ → Option ℕ
first_given (Some first) milliseconds = Some first
first_given None milliseconds = clock_revision milliseconds

-- the machine made from objects next to the ones that every server begins with, or in their place
abbrev pub machine_with : List ResourceRow → ℕ → Objects → Result Machine FileFault
machine_with table first (objects.Lines lines) = machine_from table first lines.now
machine_with table first (objects.Alone lines) = machine_alone table first lines.now

-- the machine begins after the first revision, or does not for the reason given; without a first revision the clock is
-- the reason
abbrev pub Begins : Result Started BeginError → Option ℕ → (ℕ → Result Machine FileFault) → Type 0
Begins (Ok s) (Some first) machine = Starts (Ok s) (machine first)
Begins (Err (error.Start e)) (Some first) machine = Starts (Err e) (machine first)
Begins (Err error.Clock) (Some first) machine = ⊥
Begins result None machine = result ≡ Err error.Clock
