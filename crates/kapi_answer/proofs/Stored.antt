-- Refusals if the store refuses.
use Rattle.std.proofs.Common.{ℕ, List, Option, Some, None, Result, refl}
use Rattle.std.specs.Option.{option_map}
use Rattle.kapi_text.specs.ResultIs.{Fails, ◌>>=◌}
use Rattle.kapi_reply.specs.Refusals.{named}
use Rattle.kapi_reply.specs.declared.refusal.Refused.{Refused}
use Rattle.kapi_store.specs.Faults.{StoreFault}
use Rattle.kapi_answer.specs.Create.{refusal_of, stored}

-- the fault of the store is that of the request
pub stored_fails : {X Y : Type 0} (name : List ℕ) (fault : Option StoreFault) (given : Result X StoreFault) (next : X → Result Y Refused)
    → Fails fault given → Fails (option_map (λ f. named name (refusal_of f)) fault) (stored name given >>= next)
stored_fails name None given next h = tt
stored_fails name (Some fault) given next h = rw h refl
