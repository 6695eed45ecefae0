-- The changes of a write are a run, if they are granted to its caller, or to the identity that the caller acts as.
use Rattle.std.proofs.Common.{◌≡◌, inl, List, [], ◌∷◌, Option, Some, None, refl, sym, ap, ◌∙◌, subst}
use Rattle.std.specs.List.{AllByRecursion}
use Rattle.serde_json.specs.Data.{Data}
use Rattle.kapi_model.specs.declared.identity.Identity.{Identity}
use Rattle.kapi_policy.specs.Objects.{applied}
use Rattle.kapi_policy.specs.declared.change.PolicyChange.TheVariants as change
use Rattle.kapi_policy.specs.declared.change.PolicyPut.{PolicyPut}
use Rattle.kapi_store.specs.Changes.{placed, placed_all}
use Rattle.kapi_store.specs.Plain.{PlainChange, trees_left_by}
use Rattle.kapi_store.specs.declared.key.Key.{Key}
use Rattle.kapi_escalation.proofs.Writes.{placed_keeps, placed_read}
use Rattle.kapi_escalation.specs.Kind.{policy_kind}
use Rattle.kapi_policy.specs.Steps.{after_changes}
use Rattle.kapi_escalation.specs.Reading.{changes_at, key_at, policy_objects}
use Rattle.kapi_escalation.specs.declared.kind.PolicyKind.{PolicyKind}
use Rattle.kapi_aggregation.specs.Roles.{labels_in}
use Rattle.kapi_escalation.proofs.Granted.{deletion_is_granted}
use Rattle.kapi_escalation.specs.Granted.{AreGranted, IsDeletion, IsGranted, IsGrantedAt, IsGrantedPut}
use Rattle.kapi_escalation_laws.specs.Access.{ActsAs}
use Rattle.kapi_escalation_laws.specs.Steps.{IsDeleted, IsWritten, SetsLabels, deletes, writes}
use Rattle.kapi_escalation_laws.proofs.StoredLabels.{deleted_labels, labels_kept, put_labels}
use Rattle.kapi_escalation_laws.proofs.Reached.{reaches_itself, reaches_next, reaches_onward}
use Rattle.kapi_escalation_laws.specs.Runs.{ObjectsReach}
use Rattle.kapi_escalation_laws.specs.StoredStates.{AreInOrder, labels_at, policy_state}

-- what a change at a key makes of the policy
read_at : (k : Key) (left : Option Data) (os : List (Key × Data)) → AreInOrder os → (o : Option PolicyKind) → policy_kind k ≡ o
    → policy_objects (placed k left os) ≡ after_changes (changes_at o k left) (policy_objects os)
read_at k left os sorted o at = placed_read k left os sorted ∙ ap (λ o. after_changes (changes_at o k left) (policy_objects os)) at

module _ (who other : Identity) (os : List (Key × Data)) (sorted : AreInOrder os) (acts : ActsAs (policy_objects os) who other) where
  -- a write of a role or binding
  put_made : (of : PolicyKind) (k : Key) (tree : Data) → policy_kind k ≡ Some of → (g : IsGrantedPut (policy_objects os) other of k tree)
      → IsWritten (policy_state os) (record { writer = who; made_as = other; write = g.write; labels = labels_in tree }) (policy_state (placed k (Some tree) os))
  unfolding after_changes
  put_made of k tree at g =
      let P : PolicyPut → Type 0 = λ p. SetsLabels p (labels_in tree) (labels_at os) (labels_at (placed k (Some tree) os)) in record {
        acts = acts;
        granted = g.granted;
        objects = read_at k (Some tree) os sorted (Some of) at ∙ ap (λ p. applied (change.Put p) (policy_objects os)) (sym g.puts);
        labels = subst P (sym g.puts) (put_labels k tree os sorted of at);
      }

  -- a deletion of a role or binding
  deletion_made : (of : PolicyKind) (k : Key) → policy_kind k ≡ Some of → IsDeleted (policy_state os) (key_at of k) (policy_state (placed k None os))
  unfolding after_changes
  deletion_made of k at = record { objects = read_at k None os sorted (Some of) at; labels = deleted_labels k os sorted of at }

  -- a write of anything else
  nothing_made : (k : Key) (left : Option Data) → policy_kind k ≡ None → ObjectsReach (who ∷ []) os (placed k left os)
  unfolding after_changes
  nothing_made k left at = record {
    steps = [];
    by = tt;
    runs = (read_at k left os sorted None at, labels_kept k left os sorted None at (λ never. cc never));
  }

  change_at_kind : (o : Option PolicyKind) (k : Key) (left : Option Data) → policy_kind k ≡ o → IsGrantedAt (policy_objects os) other o k left → ObjectsReach (who ∷ []) os (placed k left os)
  change_at_kind None k left at g = nothing_made k left at
  change_at_kind (Some of) k (Some tree) at g =
      reaches_next (who ∷ []) (policy_state os) (policy_state (placed k (Some tree) os)) (writes (record { writer = who; made_as = other; write = g.write; labels = labels_in tree }))
      (inl refl) (put_made of k tree at g)
  change_at_kind (Some of) k None at g =
      reaches_next (who ∷ []) (policy_state os) (policy_state (placed k None os)) (deletes (key_at of k)) tt (deletion_made of k at)

  change_reaches : (c : PlainChange) → IsGranted (policy_objects os) other c → ObjectsReach (who ∷ []) os (placed c.key c.new os)
  change_reaches c g = change_at_kind (policy_kind c.key) c.key c.new refl g

-- deletions are granted to everybody
deletions_reach : (who : Identity) (cs : List PlainChange) (os : List (Key × Data)) → AreInOrder os → AllByRecursion IsDeletion cs → ObjectsReach (who ∷ []) os (placed_all (trees_left_by cs) os)
unfolding placed_all
deletions_reach who [] os sorted all = reaches_itself (who ∷ []) (policy_state os)
deletions_reach who (c ∷ cs) os sorted all =
    let P : Option Data → Type 0 = λ left. IsGrantedAt (policy_objects os) who (policy_kind c.key) c.key left in
    reaches_onward (who ∷ []) (policy_state os) (policy_state (placed c.key c.new os)) (policy_state (placed_all (trees_left_by cs) (placed c.key c.new os)))
    (change_reaches who who os sorted (inl refl) c (subst P (sym all.0) (deletion_is_granted (policy_objects os) who (policy_kind c.key) c.key)))
    (deletions_reach who cs (placed c.key c.new os) (placed_keeps c.key c.new os sorted) all.1)

-- the changes of a write that is granted
pub granted_reach : (who other : Identity) (cs : List PlainChange) (os : List (Key × Data)) → AreInOrder os → ActsAs (policy_objects os) who other
    → AreGranted (policy_objects os) other cs → ObjectsReach (who ∷ []) os (placed_all (trees_left_by cs) os)
unfolding placed_all
granted_reach who other [] os sorted acts granted = reaches_itself (who ∷ []) (policy_state os)
granted_reach who other (c ∷ cs) os sorted acts granted =
    reaches_onward (who ∷ []) (policy_state os) (policy_state (placed c.key c.new os)) (policy_state (placed_all (trees_left_by cs) (placed c.key c.new os)))
    (change_reaches who other os sorted acts c granted.0)
    (deletions_reach who cs (placed c.key c.new os) (placed_keeps c.key c.new os sorted) granted.1)
