-- The write of a turn is a run of one turn.
use Rattle.std.proofs.Common.{◌≡◌, ℕ, List, [], ◌∷◌, Bool, true, false, if◌then◌else◌, Some, Ok, refl, sym, ap, ◌∙◌, subst}
use Rattle.std.proofs.lemmas.Slice.Eq.{bytes_eq-Decides}
use Rattle.std.specs.Prelude.{option_and_then}
use Rattle.std.specs.Map.{lookup}
use Rattle.std.specs.Str.{bytes_eq}
use Rattle.serde_json.specs.Data.{Data}
use Rattle.kapi_rbac_types.specs.Trees.{cluster_role_of}
use Rattle.kapi_model.specs.declared.identity.Identity.{Identity}
use Rattle.kapi_model.specs.declared.role.ClusterRole.{ClusterRole}
use Rattle.kapi_policy.specs.Objects.{applied}
use Rattle.kapi_policy.specs.declared.change.PolicyChange.TheVariants as change
use Rattle.kapi_policy.specs.declared.change.PolicyPut.TheVariants as put
use Rattle.kapi_store.specs.Changes.{placed, placed_all}
use Rattle.kapi_store.specs.Keys.{is_key}
use Rattle.kapi_store.specs.Plain.{Plain, PlainChange, trees_left_by, written}
use Rattle.kapi_store.specs.declared.key.Key.{Key}
use Rattle.kapi_escalation.proofs.Writes.{placed_read, policy_in_order}
use Rattle.kapi_policy.specs.Steps.{after_changes}
use Rattle.kapi_escalation.specs.Reading.{changes_at, policy_objects}
use Rattle.kapi_aggregation.proofs.Rewritten.{turn_rewrites_what_stands}
use Rattle.kapi_aggregation.specs.Rewriting.{AreRewrites, IsRewrite, rewriting, role_key}
use Rattle.kapi_aggregation.specs.Roles.{labels_in, roles_in}
use Rattle.kapi_aggregation.specs.Turns.{next}
use Rattle.kapi_aggregation.specs.declared.turn.Turn.{Turn}
use Rattle.kapi_escalation_laws.proofs.Turns.{next_is_turn}
use Rattle.kapi_escalation_laws.specs.Steps.{IsRewritten, KeepsLabels, turns}
use Rattle.kapi_escalation_laws.proofs.StoredLabels.{labels_set}
use Rattle.kapi_escalation_laws.proofs.Reached.{reaches_itself, reaches_next}
use Rattle.kapi_escalation_laws.proofs.StoredRoles.{labelled_are, role_found, role_key_kind}
use Rattle.kapi_escalation_laws.specs.Runs.{ObjectsReach}
use Rattle.kapi_escalation_laws.specs.StoredStates.{AreInOrder, labels_at, policy_state}

module _ (os : List (Key × Data)) (turn : Turn) (old new : Data) (sorted : AreInOrder os)
    (found : lookup (is_key (role_key turn.name)) os ≡ Some old)
    (rules : cluster_role_of new ≡ record (cluster_role_of old) { rules = turn.rules }) (labels : labels_in new ≡ labels_in old) where
  -- all labels are kept
  keeps_labels : KeepsLabels (labels_at os) (labels_at (placed (role_key turn.name) (Some new) os))
  keeps_labels q = labels_set (role_key turn.name) (Some new) os sorted (role_key_kind turn.name) q ∙ by_name (bytes_eq q turn.name) refl
    where
      by_name : (b : Bool) → bytes_eq q turn.name ≡ b → (if b then labels_in new else labels_at os q) ≡ labels_at os q
      by_name true is =
          let same : q ≡ turn.name = (bytes_eq-Decides q turn.name).0 is in
          labels ∙ sym (ap (λ (name : List ℕ). labels_at os name) same ∙ ap (option_and_then labels_in) found)
      by_name false is = refl

  rewritten : IsRewritten (policy_state os) turn (policy_state (placed (role_key turn.name) (Some new) os))
  unfolding after_changes
  rewritten = record {
    role = cluster_role_of old;
    found = role_found os turn.name old found;
    objects = placed_read (role_key turn.name) (Some new) os sorted
        ∙ ap (λ o. after_changes (changes_at o (role_key turn.name) (Some new)) (policy_objects os)) (role_key_kind turn.name)
        ∙ ap (λ (r : ClusterRole). applied (change.Put (put.ClusterRole turn.name r)) (policy_objects os)) rules;
    labels = keeps_labels;
  }

  -- the next turn is a step, whichever identities act
  pub turn_reaches : (acting : List Identity) → next (roles_in os) ≡ Some turn → ObjectsReach acting os (placed (role_key turn.name) (Some new) os)
  turn_reaches acting comes =
      reaches_next acting (policy_state os) (policy_state (placed (role_key turn.name) (Some new) os)) (turns turn.name) tt
      (next_is_turn (policy_state os) (policy_state (placed (role_key turn.name) (Some new) os)) turn (policy_in_order os sorted)
      (ap next (labelled_are os sorted) ∙ comes) rewritten)

module _ (acting : List Identity) (turn : Turn) where
  -- the changes of a turn, if its cluster role is stored
  rewrites_reach : (os : List (Key × Data)) (old : Data) → AreInOrder os → next (roles_in os) ≡ Some turn → lookup (is_key (role_key turn.name)) os ≡ Some old
      → (changes : List PlainChange) → AreRewrites turn old changes → ObjectsReach acting os (placed_all (trees_left_by changes) os)
  unfolding placed_all
  rewrites_reach os old sorted comes found [] are = reaches_itself acting (policy_state os)
  rewrites_reach os old sorted comes found (c ∷ cs) are =
      let is : IsRewrite turn old c = are.0 in
      let P : List (Key × Data) → Type 0 = λ now. ObjectsReach acting os now in
      let one : placed_all (trees_left_by cs) (placed c.key c.new os) ≡ placed (role_key turn.name) (Some is.new) os =
      ap (λ (rest : List PlainChange). placed_all (trees_left_by rest) (placed c.key c.new os)) are.1 ∙ (λ i. placed (is.place i) (is.puts i) os) in
      subst P (sym one) (turn_reaches os turn old is.new sorted found is.role is.labels acting comes)

  -- the write of the next turn is a run
  pub turn_runs : (s : Plain) (changes : List PlainChange) → AreInOrder s.objects → next (roles_in s.objects) ≡ Some turn → rewriting turn s ≡ Ok changes
      → ObjectsReach acting s.objects (written changes s).objects
  turn_runs s changes sorted comes is =
      let stood = turn_rewrites_what_stands turn s changes is in rewrites_reach s.objects stood.0 sorted comes stood.1.0 changes stood.1.1
