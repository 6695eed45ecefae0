-- Runs, one after the other.
use Rattle.std.proofs.Common.{◌≡◌, List, [], ◌∷◌, ◌++◌, refl, sym, subst}
use Rattle.serde_json.specs.Data.{Data}
use Rattle.kapi_model.specs.declared.identity.Identity.{Identity}
use Rattle.kapi_store.specs.declared.key.Key.{Key}
use Rattle.kapi_escalation.proofs.Writes.{policy_in_order}
use Rattle.kapi_escalation.specs.Reading.{policy_objects}
use Rattle.kapi_aggregation.specs.Roles.{roles_in}
use Rattle.kapi_aggregation.specs.Unions.{IsSettled as AreUnions}
use Rattle.kapi_escalation_laws.proofs.Elements.{has_left, has_right}
use Rattle.kapi_escalation_laws.proofs.Law.{all_within, nobody_gains, roles_never_grow}
use Rattle.kapi_escalation_laws.specs.Access.{GivesNothing, IsUnprivileged}
use Rattle.kapi_aggregation.specs.Members.{Has}
use Rattle.kapi_escalation_laws.specs.States.{PolicyState}
use Rattle.kapi_escalation_laws.specs.Steps.{AreBy, IsBy, IsGuarded, KeepsLabels, Makes, PolicyStep, Runs, deletes, turns, writes}
use Rattle.kapi_escalation_laws.proofs.StoredRoles.{labelled_are}
use Rattle.kapi_escalation_laws.specs.Runs.{ObjectsReach, Reaches}
use Rattle.kapi_escalation_laws.specs.StoredStates.{AreInOrder, labels_at, policy_state}
use Rattle.kapi_escalation_laws.specs.Within.{RolesNeverGrow, StaysWithin}

same_state : (s t : PolicyState) → t.objects ≡ s.objects → KeepsLabels s.labels t.labels → t ≡ s
same_state s t objects labels = λ i. record { objects = objects i; labels = λ q. labels q i }

joined : (s m t : PolicyState) (xs ys : List PolicyStep) → Runs s xs m → Runs m ys t → Runs s (xs ++ ys) t
joined s m t [] ys h k = let P : PolicyState → Type 0 = λ p. Runs p ys t in subst P (same_state s m h.0 h.1) k
joined s m t (x ∷ xs) ys h k = (h.0, (h.1.0, joined h.0 m t xs ys h.1.1 k))

module _ (few many : List Identity) (among : (who : Identity) → Has few who → Has many who) where
  wider : (step : PolicyStep) → IsBy few step → IsBy many step
  wider (writes w) by = among w.writer by
  wider (deletes k) by = tt
  wider (turns name) by = tt

  wider_all : (steps : List PolicyStep) → AreBy few steps → AreBy many steps
  wider_all [] by = tt
  wider_all (step ∷ steps) by = (wider step by.0, wider_all steps by.1)

  -- a run is one by more acting identities as well
  pub reaches_by : (s t : PolicyState) → Reaches few s t → Reaches many s t
  reaches_by s t r = record { steps = r.steps; by = wider_all r.steps r.by; runs = r.runs }

module _ (acting : List Identity) where
  by_both : (xs ys : List PolicyStep) → AreBy acting xs → AreBy acting ys → AreBy acting (xs ++ ys)
  by_both [] ys h k = k
  by_both (x ∷ xs) ys h k = (h.0, by_both xs ys h.1 k)

  -- no step
  pub reaches_itself : (s : PolicyState) → Reaches acting s s
  reaches_itself s = record { steps = []; by = tt; runs = (refl, λ q. refl) }

  -- one step
  pub reaches_next : (s t : PolicyState) (step : PolicyStep) → IsBy acting step → Makes s step t → Reaches acting s t
  reaches_next s t step by makes = record { steps = step ∷ []; by = (by, tt); runs = (t, (makes, (refl, λ q. refl))) }

  -- one run after the other
  pub reaches_onward : (s m t : PolicyState) → Reaches acting s m → Reaches acting m t → Reaches acting s t
  reaches_onward s m t first rest = record {
    steps = first.steps ++ rest.steps;
    by = by_both first.steps rest.steps first.by rest.by;
    runs = joined s m t first.steps rest.steps first.runs rest.runs;
  }

  -- nobody gains by a run
  pub reached_gives_nothing : (s t : PolicyState) → IsGuarded acting s → Reaches acting s t → GivesNothing acting s.objects t.objects
  reached_gives_nothing s t guarded r = nobody_gains acting s t r.steps guarded r.by r.runs

-- one run after the other, whichever identities made either
pub reaches_both : (xs ys : List Identity) (s m t : PolicyState) → Reaches xs s m → Reaches ys m t → Reaches (xs ++ ys) s t
reaches_both xs ys s m t first rest =
    reaches_onward (xs ++ ys) s m t (reaches_by xs (xs ++ ys) (has_left xs ys) s m first) (reaches_by ys (xs ++ ys) (has_right xs ys) m t rest)

-- objects in order whose aggregated cluster roles have their unions are where a run of unprivileged identities may start
guarded : (acting : List Identity) (os : List (Key × Data)) → AreInOrder os → AreUnions (roles_in os)
    → ((who : Identity) → Has acting who → IsUnprivileged (policy_objects os) who) → IsGuarded acting (policy_state os)
guarded acting os sorted settled unprivileged =
    record { order = policy_in_order os sorted; settled = subst AreUnions (sym (labelled_are os sorted)) settled; unprivileged = unprivileged }

-- nobody gains by a run of the policies of some objects
pub objects_give_nothing : (acting : List Identity) (os now : List (Key × Data)) → AreInOrder os → AreUnions (roles_in os)
    → ((who : Identity) → Has acting who → IsUnprivileged (policy_objects os) who) → ObjectsReach acting os now → GivesNothing acting (policy_objects os) (policy_objects now)
objects_give_nothing acting os now sorted settled unprivileged reached =
    reached_gives_nothing acting (policy_state os) (policy_state now) (guarded acting os sorted settled unprivileged) reached

-- all stays within what the acting identities held at the start of such a run, or was there then
pub objects_stay_within : (acting : List Identity) (os now : List (Key × Data)) → AreInOrder os → AreUnions (roles_in os)
    → ((who : Identity) → Has acting who → IsUnprivileged (policy_objects os) who) → ObjectsReach acting os now
    → StaysWithin acting (policy_objects os) (policy_objects now) (labels_at now)
objects_stay_within acting os now sorted settled unprivileged reached =
    all_within acting (policy_state os) (policy_state now) reached.steps (guarded acting os sorted settled unprivileged) reached.by reached.runs

-- from one moment to a later one roles get only what is within what the identities of both runs held at the start
pub objects_never_grow : (xs ys : List Identity) (os now later : List (Key × Data)) → AreInOrder os → AreUnions (roles_in os)
    → ((who : Identity) → Has (xs ++ ys) who → IsUnprivileged (policy_objects os) who) → ObjectsReach xs os now → ObjectsReach ys now later
    → RolesNeverGrow (xs ++ ys) (policy_objects os) (policy_objects now) (policy_objects later)
objects_never_grow xs ys os now later sorted settled unprivileged first rest =
    let one = reaches_by xs (xs ++ ys) (has_left xs ys) (policy_state os) (policy_state now) first in
    let other = reaches_by ys (xs ++ ys) (has_right xs ys) (policy_state now) (policy_state later) rest in
    roles_never_grow (xs ++ ys) (policy_state os) (policy_state now) (policy_state later) one.steps other.steps (guarded (xs ++ ys) os sorted settled unprivileged) one.by other.by one.runs other.runs
