-- What holds of the results of checks in a row.
use Rattle.std.proofs.Common.{◌≡◌, ℕ, List, Result, Ok, Err, refl, ap, subst, IfOk}
use Rattle.kapi_text.specs.ResultIs.{◌>>=◌}
use Rattle.kapi_store.specs.Faults.{StoreFault}
use Rattle.kapi_answer.specs.Create.{stored}

module _ {A F : Type 0} where
  pub bind_holds : {B : Type 0} (x : Result A F) (f : A → Result B F) (P : B → Type 0) → ((a : A) → x ≡ Ok a → IfOk (f a) P) → IfOk (x >>= f) P
  bind_holds (Ok a) f P holds = holds a refl
  bind_holds (Err e) f P holds = tt

  -- what was returned is as all that may be
  pub returned : (x : Result A F) (P : A → Type 0) (v : A) → x ≡ Ok v → IfOk x P → P v
  returned x P v is holds = subst (λ (z : Result A F). IfOk z P) is holds

pub stored_ok : {X : Type 0} (name : List ℕ) (r : Result X StoreFault) (x : X) → stored name r ≡ Ok x → r ≡ Ok x
stored_ok name (Ok y) x is = let same : y ≡ x = cc in ap Ok same
stored_ok name (Err fault) x is = absurd (cc is)
