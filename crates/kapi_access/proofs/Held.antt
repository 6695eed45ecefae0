-- What an identity holds, and what that allows.
use Rattle.std.proofs.Common.{◌≡◌, ◌⊎◌, ℕ, Bool, true, false, ◌||◌, if◌then◌else◌, List, [], None, refl, sym, ◌∙◌}
use Rattle.std.specs.List.{list_any}
use Rattle.std.specs.Option.{unwrap_or}
use Rattle.std.proofs.lemmas.Bool.{or_right}
use Rattle.kapi_model.specs.declared.policy_rule.PolicyRule.{PolicyRule}
use Rattle.kapi_model.specs.Identities.{is_master}
use Rattle.kapi_model.specs.Subjects.{subject_matches}
use Rattle.kapi_model.specs.declared.identity.Identity.{Identity}
use Rattle.kapi_rules.specs.Rules.{allows}
use Rattle.kapi_rules.specs.declared.point.Point.{Point}
use Rattle.kapi_policy.proofs.Decisions.{allowed_where_held}
use Rattle.kapi_policy.specs.All.{all_bindings}
use Rattle.kapi_policy.specs.Decided.{Binding, bindings_in, given, held, rules_of}
use Rattle.kapi_policy.specs.Objects.{PolicyObjects}
use Rattle.kapi_access.proofs.Bound.{bound_by, counted, counts_in}
use Rattle.kapi_aggregation.proofs.Lists.{some_at}
use Rattle.kapi_escalation_laws.proofs.Elements.{has_part, part_of, passing}
use Rattle.kapi_escalation_laws.proofs.Atoms.{where_bound}
use Rattle.kapi_escalation_laws.specs.Access.{may}
use Rattle.kapi_aggregation.specs.Members.{Has}
use Rattle.kapi_access.specs.declared.grantee.Grantee.{Grantee}
use Rattle.kapi_access.specs.Grantees.{grantees, matches, role_of}

-- a binding that counts in the namespace gives the rule to the identity, as a user or by a group
pub record HoldsBy (objects : PolicyObjects) (identity : Identity) (namespace : List ℕ) (rule : PolicyRule) : Type 0 where
  pub by : Binding
  pub stands : Has (all_bindings objects) by
  pub there : (by.namespace ≡ []) ⊎ (by.namespace ≡ namespace)
  pub to : Grantee
  pub bound : Has (grantees by) to
  pub meant : matches to identity ≡ true
  pub listed : Has (role_of objects by) rule

module _ (objects : PolicyObjects) (identity : Identity) (namespace : List ℕ) where
  pub holds_by : (rule : PolicyRule) → Has (held objects identity namespace) rule → HoldsBy objects identity namespace rule
  unfolding held given
  holds_by rule has = by_meant (list_any (λ s. subject_matches s b.0.namespace identity) b.0.subjects) refl b.1.1
    where
      b : (b : Binding) × (Has (bindings_in objects namespace) b × Has (unwrap_or (given objects identity b) []) rule)
      b = part_of (λ b. unwrap_or (given objects identity b) []) (bindings_in objects namespace) rule has

      by_meant : (m : Bool) → list_any (λ s. subject_matches s b.0.namespace identity) b.0.subjects ≡ m
          → Has (unwrap_or (if m then rules_of objects b.0.role b.0.namespace else None) []) rule → HoldsBy objects identity namespace rule
      by_meant false is never = absurd never
      by_meant true is there =
          let to = passing (λ (g : Grantee). matches g identity) (grantees b.0) (bound_by b.0 identity ∙ is) in
          record { by = b.0; stands = counted objects namespace b.0 b.1.0; there = where_bound objects namespace b.0 b.1.0; to = to.0; bound = to.1.0; meant = to.1.1; listed = there }

  given_all : (b : Binding) → list_any (λ s. subject_matches s b.namespace identity) b.subjects ≡ true → unwrap_or (given objects identity b) [] ≡ role_of objects b
  unfolding given
  given_all b meant = rw meant refl

  pub holds : (rule : PolicyRule) → HoldsBy objects identity namespace rule → Has (held objects identity namespace) rule
  unfolding held
  holds rule h =
      has_part (λ b. unwrap_or (given objects identity b) []) (bindings_in objects namespace) h.by rule (counts_in objects namespace h.by h.stands h.there)
      (rw (given_all h.by (sym (bound_by h.by identity) ∙ some_at (λ (g : Grantee). matches g identity) (grantees h.by) h.to h.bound h.meant)) h.listed)

  -- who holds a rule may do what it allows
  pub may_by : (p : Point) (rule : PolicyRule) → Has (held objects identity namespace) rule → allows rule p ≡ true → may objects identity namespace p ≡ true
  may_by p rule has allowed =
      allowed_where_held objects identity namespace p ∙ or_right (is_master identity) _ (some_at (λ rule. allows rule p) (held objects identity namespace) rule has allowed)

  -- who is no master and may do something holds a rule that allows it
  pub rule_of_may : (p : Point) → may objects identity namespace p ≡ true → is_master identity ≡ false
      → (rule : PolicyRule) × (Has (held objects identity namespace) rule × (allows rule p ≡ true))
  rule_of_may p allowed plain =
      passing (λ rule. allows rule p) (held objects identity namespace) (rest (is_master identity) _ plain (sym (allowed_where_held objects identity namespace p) ∙ allowed))
    where
      rest : (a b : Bool) → a ≡ false → (a || b) ≡ true → b ≡ true
      rest true b h k = absurd cc
      rest false b h k = k

  pub masters_may : (p : Point) → is_master identity ≡ true → may objects identity namespace p ≡ true
  masters_may p is = allowed_where_held objects identity namespace p ∙ rw is refl
