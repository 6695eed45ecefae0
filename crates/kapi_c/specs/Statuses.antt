-- The status of a load.
use Rattle.std.specs.Prelude.{ℕ, Result, Ok, Err, Box}
use Rattle.std.specs.declared.alloc.Global.{Global}
use Rattle.kapi_engine.specs.declared.loaded_policy.LoadedPolicy.{LoadedPolicy}

-- 0, or the status that was given
abbrev pub status_in : Result (Box LoadedPolicy Global) ℕ → ℕ
status_in (Ok made) = 0
status_in (Err status) = status
