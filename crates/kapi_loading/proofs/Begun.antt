-- A machine at its start, with a desk or without one.
use Rattle.std.proofs.Common.{◌≡◌, [], Result, Ok, Err, IsErrAnd, ◌∙◌, refl, subst, sym}
use Rattle.kapi_text.specs.ResultIs.{Fails}
use Rattle.kapi_core.specs.Machine.{Machine, policy_of}
use Rattle.kapi_core.specs.Running.{Running}
use Rattle.kapi_core.specs.Refines.{Refines}
use Rattle.kapi_publishing.specs.Boards.{Board, Chair, fresh}
use Rattle.kapi_publishing.specs.Steps.{after}
use Rattle.kapi_loading.specs.Faults.{FileFault, model_of_fault}
use Rattle.kapi_loading.specs.Loading.{HasPublished}
use Rattle.kapi_loading.specs.Starting.{Holds}
use Rattle.kapi_loading.specs.declared.fault.StartError.{StartError}
use Rattle.kapi_policy.specs.Objects.{no_objects}

-- a desk over the policy of a core has published it
pub published_first : (core : Running) (desk : Board) (m : Machine) → Refines core m → desk.opening ≡ core.policy → desk.list ≡ [] → desk.waiting ≡ []
    → HasPublished (fresh desk) desk (policy_of m)
unfolding after
published_first core desk m stands opening none free = (refl, free, (λ i. after (opening i) (none i)) ∙ stands.policy_is)

-- some seat
abbrev pub no_seat : Chair
no_seat = record { desk = record { number = 0; log_name = 0; cells_name = 0 }; opening = no_objects; seen = [] }

-- a fault that is handed on, if there is no core
pub core_fault : (result : Result Running StartError) (e : StartError) (given : Result Machine FileFault) → IsErrAnd result (λ f. f ≡ e) → Fails (model_of_fault e) given → Holds result given
core_fault (Ok core) e given is h = absurd is
core_fault (Err f) e given is h = subst (λ x. Fails (model_of_fault x) given) (sym is) h
