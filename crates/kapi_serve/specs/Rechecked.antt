-- What a server sent on watches whose rights are rechecked.
use Rattle.std.specs.Prelude.{◌≡◌, ◌⊎◌, true, List, [], ◌∷◌, Some}
use Rattle.kapi_answer.specs.Watch.{PlainWatching, may_go_on}
use Rattle.kapi_core.specs.Machine.{Machine, policy_of, step}
use Rattle.kapi_core.specs.Pumps.{watch_on}
use Rattle.kapi_core.specs.Rechecks.{refusal_of}
use Rattle.kapi_core.specs.declared.event.Answer.TheVariants as answer
use Rattle.kapi_core.specs.declared.event.ConnId.{ConnId}
use Rattle.kapi_core.specs.declared.event.Event.TheVariants as event
use Rattle.kapi_core.specs.declared.event.Output.{Output}
use Rattle.kapi_serve.specs.Account.{Made}

-- what was sent on a watch is the refusal that ends it, or its identity was allowed to start it at that moment
abbrev pub WasAllowed : Machine → Made → Type 0
WasAllowed m made = (conn : ConnId) (w : PlainWatching) (output : Output) → made.event ≡ event.Pump conn → watch_on conn.0 m ≡ Some w → made.answer ≡ answer.Sent output
    → (may_go_on (policy_of m) w ≡ true) ⊎ (output ≡ refusal_of w)

-- each answer was allowed, at the moment of its event
unfoldable pub WereAllowed : Machine → List Made → Type 0
WereAllowed m [] = Unit {0}
WereAllowed m (made ∷ rest) = WasAllowed m made × WereAllowed (step m made.event).1 rest
