-- What a server sent on watches was allowed.
use Rattle.std.proofs.Common.{◌≡◌, true, List, [], ◌∷◌, sym, ◌∙◌}
use Rattle.kapi_core.proofs.Rechecking.{rechecks_watches}
use Rattle.kapi_core.specs.Machine.{Machine, answers, step}
use Rattle.kapi_core.specs.Rechecks.{SendsWhileAllowed}
use Rattle.kapi_serve.specs.Account.{Made}
use Rattle.kapi_serve.specs.Acts.{answers_of, events_of}
use Rattle.kapi_serve.specs.Rechecked.{WereAllowed}

answers_were_allowed : (m : Machine) (made : List Made) → answers_of made ≡ answers m (events_of made) → SendsWhileAllowed m (events_of made) → WereAllowed m made
unfolding answers SendsWhileAllowed WereAllowed
answers_were_allowed m [] is sends = tt
answers_were_allowed m (one ∷ rest) is sends =
    let first : one.answer ≡ (step m one.event).0 = cc is in
    ((λ conn w output pump on sent. sends.0 conn w output pump on (sym first ∙ sent)), answers_were_allowed (step m one.event).1 rest (cc is) sends.1)

pub were_allowed : (m : Machine) (made : List Made) → answers_of made ≡ answers m (events_of made) → m.rechecks ≡ true → WereAllowed m made
were_allowed m made is on = answers_were_allowed m made is (rechecks_watches m (events_of made) on)
