-- The loading of an object, of the store and the policy and of the whole machine.
use Rattle.std.proofs.Common.{◌≡◌, ℕ, List, Result, Ok, Err, subst, ◌∙◌}
use Rattle.kapi_aggregation.specs.Marks.{Tracked}
use Rattle.kapi_text.specs.ResultIs.{Fails}
use Rattle.kapi_answer.specs.Load.{model_of_fault, loads}
use Rattle.kapi_answer.specs.declared.loading.LoadError.{LoadError}
use Rattle.kapi_policy.specs.Objects.{PolicyObjects}
use Rattle.kapi_policy.specs.declared.change.PolicyChange.{PolicyChange}
use Rattle.kapi_store.proofs.Stores.{same_stands}
use Rattle.kapi_store.specs.Plain.{Plain}
use Rattle.kapi_store.specs.State.{State}
use Rattle.kapi_core.specs.Running.{Running}
use Rattle.kapi_core.specs.Refines.{Loads}
use Rattle.kapi_core.specs.Private.Writes.{LoadsInto}
use Rattle.kapi_core.proofs.AlikeLinks.{changes_follow, links_written}

-- what was loaded into the store and the policy was loaded into the machine
pub loaded : (old : Running) (t : State) (u : PolicyObjects) (ns : Tracked) (text : List ℕ) (result : Result (List PolicyChange) LoadError)
    → LoadsInto old.store old.policy old.marks t u ns text result → Loads old (record old { store = t; policy = u; marks = ns }) text result
loaded old t u ns text (Ok made) (changes, is, told, writes) = λ m h.
    let after = writes m.changes m.store h.store h.policy_is h.covers in
    let P : Plain → Type 0 = λ p. loads p text ≡ Ok changes in
    let follow = changes_follow old.store t m.changes changes m.store h.store after.0 in (
      changes,
      subst P h.store.plain is,
      told,
      record {
        store = after.0;
        policy_is = after.1;
        covers = after.2;
        next_id = h.next_id;
        rechecks = h.rechecks;
        links = links_written m.changes changes m.store follow old.connections m.links h.links;
      },
    )
loaded old t u ns text (Err e) (fails, same, kept, marks) = λ m h.
    let P : Plain → Type 0 = λ p. Fails (model_of_fault e) (loads p text) in (
      subst P h.store.plain fails,
      record { store = same_stands _ _ same m.changes m.store h.store; policy_is = kept ∙ h.policy_is; covers = marks _ h.covers; next_id = h.next_id; rechecks = h.rechecks; links = h.links },
    )
