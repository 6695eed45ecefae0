-- Each answer reports what its event changed in the policy.
use Rattle.std.proofs.Common.{◌≡◌, List, [], ◌∷◌, refl, sym, ap, ◌∙◌}
use Rattle.kapi_escalation_laws.specs.StoredStates.{AreInOrder}
use Rattle.kapi_store.specs.Plain.{Plain, PlainChange, written}
use Rattle.kapi_escalation.proofs.Writes.{policy_after, stands_in_order}
use Rattle.kapi_policy.specs.Steps.{after_changes}
use Rattle.kapi_escalation.specs.Reading.{policy_changes, policy_objects}
use Rattle.kapi_core.proofs.Effects.{Effect, effect}
use Rattle.kapi_core.proofs.Gains.{event_is_run_on}
use Rattle.kapi_core.specs.declared.event.Event.{Event}
use Rattle.kapi_core.specs.Machine.{Machine, after, answers, policy_of, step}
use Rattle.kapi_core.specs.Running.{Running}
use Rattle.kapi_core.specs.Refines.{Refines}
use Rattle.kapi_core.specs.Telling.{changes_told, policy_told}

-- some changes were written, and reported
told_written : (m n : Machine) (changes : List PlainChange) → AreInOrder m.store.objects → n.store ≡ written changes m.store
    → policy_of n ≡ after_changes (policy_changes changes) (policy_of m)
told_written m n changes sorted is = ap (λ (s : Plain). policy_objects s.objects) is ∙ policy_after changes m.store.objects sorted

-- ---- events

pub event_tells : (m : Machine) (e : Event) → AreInOrder m.store.objects → policy_of (step m e).1 ≡ after_changes (changes_told (step m e).0) (policy_of m)
event_tells m e sorted =
    let x : Effect m e (step m e) = effect m e in
    told_written m (step m e).1 x.changes sorted x.store ∙ ap (λ cs. after_changes cs (policy_of m)) (sym x.told)

-- ---- lists of events

events_tell : (m : Machine) (es : List Event) → AreInOrder m.store.objects → policy_of (after m es) ≡ policy_told (answers m es) (policy_of m)
unfolding after answers policy_told
events_tell m [] sorted = refl
events_tell m (e ∷ es) sorted =
    events_tell (step m e).1 es (event_is_run_on m e sorted).order ∙ ap (policy_told (answers (step m e).1 es)) (event_tells m e sorted)

-- the answers of a machine that a running one refines report what changed
pub stood_for_tell : (core : Running) (m : Machine) (es : List Event) → Refines core m → policy_of (after m es) ≡ policy_told (answers m es) (policy_of m)
stood_for_tell core m es stands = events_tell m es (stands_in_order core.store m.changes m.store stands.store)
