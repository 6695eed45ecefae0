-- The machine after the opening objects.
use Rattle.std.proofs.Common.{◌≡◌, ℕ, List, [], ◌∷◌, Result, Ok, Err, refl, ◌∙◌}
use Rattle.std.specs.List.{fold}
use Rattle.serde_json.specs.Data.{Data}
use Rattle.kapi_object.specs.Admission.{BodyFault, object_of}
use Rattle.kapi_store.specs.Faults.{StoreFault}
use Rattle.kapi_store.specs.Plain.{PlainChange, creation}
use Rattle.kapi_store.specs.declared.key.Key.{Key}
use Rattle.kapi_model.specs.declared.row.ResourceRow.{ResourceRow}
use Rattle.kapi_policy.specs.Objects.{no_objects}
use Rattle.kapi_escalation.specs.Reading.{collected, policy_objects}
use Rattle.kapi_core.specs.Machine.{Machine, policy_of}
use Rattle.kapi_core.specs.Opening.{OpeningObject, cluster_key, created_if, empty, with_opening, written_if}

-- the connections, the next number and the switch are as they were
pub record SameLinks (m n : Machine) : Type 0 where
  pub next_id : n.next_id ≡ m.next_id
  pub links : n.links ≡ m.links
  pub rechecks : n.rechecks ≡ m.rechecks

written_same : (m : Machine) (r : Result (List PlainChange) StoreFault) → SameLinks m (written_if m r)
written_same m (Ok changes) = record { next_id = refl; links = refl; rechecks = refl }
written_same m (Err fault) = record { next_id = refl; links = refl; rechecks = refl }

created_same : (m : Machine) (key : Key) (r : Result Data BodyFault) → SameLinks m (created_if m key r)
created_same m key (Ok tree) = written_same m (creation m.store key tree)
created_same m key (Err fault) = record { next_id = refl; links = refl; rechecks = refl }

opening_same : (m : Machine) (o : OpeningObject) → SameLinks m (with_opening m o)
unfolding with_opening
opening_same m o = created_same m (cluster_key o.row o.name) (object_of o.row o.body)

pub openings_same : (os : List OpeningObject) (m : Machine) → SameLinks m (fold with_opening m os)
openings_same [] m = record { next_id = refl; links = refl; rechecks = refl }
openings_same (o ∷ os) m =
    let one = opening_same m o in
    let rest = openings_same os (with_opening m o) in
    record { next_id = rest.next_id ∙ one.next_id; links = rest.links ∙ one.links; rechecks = rest.rechecks ∙ one.rechecks }

-- a machine without objects has no roles and bindings
pub opens_without_policy : (table : List ResourceRow) (first : ℕ) → policy_of (empty table first) ≡ no_objects
unfolding policy_objects collected
opens_without_policy table first = refl
