-- What a machine is loaded as is what a loaded policy is of.
use Rattle.std.proofs.Common.{◌≡◌, ℕ, Bool, List, Result, Ok, Err, IsErrAnd, ap, ◌∙◌, subst, sym}
use Rattle.kapi_text.specs.ResultIs.{Fails, ResultIs, ◌>>=◌}
use Rattle.kapi_core.specs.Machine.{Machine, policy_of}
use Rattle.kapi_loading.proofs.Loaded.{fault_kept}
use Rattle.kapi_loading.specs.Faults.{model_of_fault}
use Rattle.kapi_loading.specs.Loading.{policy_machine}
use Rattle.kapi_loading.specs.Settled.{is_settled}
use Rattle.kapi_loading.specs.declared.fault.StartError.{StartError}
use Rattle.kapi_policy.specs.Objects.{PolicyObjects}
use Rattle.kapi_engine.specs.LoadedPolicies.{loaded_of, loaded_on}
use Rattle.kapi_engine.specs.declared.loaded_policy.LoadedPolicy.{LoadedPolicy}

-- the loaded policy of a machine that is loaded
pub engine_made : (objects : List ℕ) (policy : PolicyObjects) (settled : Bool) (m : Machine) → policy_machine objects ≡ Ok m → policy ≡ policy_of m → settled ≡ is_settled m
    → loaded_of objects ≡ Ok (record { policy = policy; settled = settled })
unfolding loaded_of
engine_made objects policy settled m is p s =
    ap (λ r. r >>= λ k. Ok (loaded_on k)) is ∙ (λ i. Ok (record { policy = sym p i; settled = sym s i }))

-- why there is no machine is why there is no loaded policy
pub engine_fails : (objects : List ℕ) (result : Result LoadedPolicy StartError) (e : StartError) → IsErrAnd result (λ f. f ≡ e) → Fails (model_of_fault e) (policy_machine objects)
    → ResultIs model_of_fault (λ x. x) result (loaded_of objects)
unfolding loaded_of
engine_fails objects (Ok x) e is h = absurd is
engine_fails objects (Err f) e is h =
    subst (λ x. Fails (model_of_fault x) (policy_machine objects >>= λ m. Ok (loaded_on m))) (sym is) (fault_kept (model_of_fault e) (policy_machine objects) (λ m. Ok (loaded_on m)) h)
