-- The policy changes of one step.
use Rattle.std.proofs.Common.{◌≡◌, List, [], ◌∷◌, ◌++◌, Option, None, Some, map, option_map, refl, sym, ap, subst}
use Rattle.serde_json.specs.Data.{Data}
use Rattle.kapi_store.specs.Stored.{stored_tree}
use Rattle.kapi_policy.specs.declared.change.PolicyChange.{PolicyChange}
use Rattle.kapi_store.specs.Changes.{AreRemovals, IsStep}
use Rattle.kapi_store.specs.Plain.{plain_change}
use Rattle.kapi_store.specs.declared.change.Change.{Change}
use Rattle.kapi_store.specs.declared.key.Key.{Key}
use Rattle.kapi_escalation.specs.Kind.{policy_kind}
use Rattle.kapi_policy.proofs.Steps.{deletions_step}
use Rattle.kapi_policy.specs.Steps.{AreDeletions, IsStep as IsPolicyStep}
use Rattle.kapi_escalation.specs.Reading.{changes_at, key_at, policy_changes}
use Rattle.kapi_escalation.specs.declared.kind.PolicyKind.{PolicyKind}

-- a removal is a deletion, if it is of a policy object
deletions_after : (o : Option PolicyKind) (k : Key) (left : Option Data) → left ≡ None → (cs : List PolicyChange) → AreDeletions cs → AreDeletions (changes_at o k left ++ cs)
unfolding AreDeletions
deletions_after None k left none cs h = h
deletions_after (Some of) k (Some tree) none cs h = absurd (cc none)
deletions_after (Some of) k None none cs h = ((key_at of k, refl), h)

removals_delete : (cs : List Change) → AreRemovals cs → AreDeletions (policy_changes (map plain_change cs))
unfolding AreRemovals AreDeletions policy_changes
removals_delete [] h = tt
removals_delete (c ∷ cs) h =
    deletions_after (policy_kind c.key) c.key (option_map stored_tree c.new) (ap (option_map stored_tree) h.0) (policy_changes (map plain_change cs)) (removals_delete cs h.1)

-- one change, of a policy object or of none, is a step
one_step : (o : Option PolicyKind) (k : Key) (left : Option Data) → IsPolicyStep (changes_at o k left ++ [])
one_step None k left = tt
one_step (Some of) k left = tt

policy_step : (cs : List Change) → IsStep cs → IsPolicyStep (policy_changes (map plain_change cs))
unfolding policy_changes
policy_step [] h = tt
policy_step (c ∷ []) h = one_step (policy_kind c.key) c.key (option_map stored_tree c.new)
policy_step (c ∷ d ∷ cs) h = deletions_step (policy_changes (map plain_change (c ∷ d ∷ cs))) (removals_delete (c ∷ d ∷ cs) h)

-- the policy changes of a step of the store are a step
pub changes_step : (cs : List Change) (changes : List PolicyChange) → changes ≡ policy_changes (map plain_change cs) → IsStep cs → IsPolicyStep changes
changes_step cs changes is h = let P : List PolicyChange → Type 0 = λ items. IsPolicyStep items in subst P (sym is) (policy_step cs h)
