-- What a loaded policy is of.
use Rattle.std.specs.Prelude.{ℕ, List, Result, Ok}
use Rattle.kapi_text.specs.ResultIs.{◌>>=◌}
use Rattle.kapi_core.specs.Machine.{Machine, policy_of}
use Rattle.kapi_loading.specs.Faults.{FileFault}
use Rattle.kapi_loading.specs.Loading.{policy_machine}
use Rattle.kapi_loading.specs.Settled.{is_settled}
use Rattle.kapi_engine.specs.declared.loaded_policy.LoadedPolicy.{LoadedPolicy}

-- the policy of a machine, and whether its roles are settled
abbrev pub loaded_on : Machine → LoadedPolicy
loaded_on m = record { policy = policy_of m; settled = is_settled m }

-- the policy of a machine of these objects alone, or the first line that is not loaded
unfoldable pub loaded_of : List ℕ → Result LoadedPolicy FileFault
loaded_of objects = policy_machine objects >>= λ m. Ok (loaded_on m)
