-- If the rules of a union come from, and what it has.
use Rattle.std.proofs.Common.{◌≡◌, ◌⊎◌, inl, inr, ℕ, List, [], ◌∷◌, ◌++◌, Bool, true, false, cond, not, ◌&&◌, Some, refl}
use Rattle.std.specs.List.{filter, flat_map, fold, list_any}
use Rattle.std.specs.Str.{bytes_eq}
use Rattle.kapi_model.specs.Selector.{matches}
use Rattle.kapi_model.specs.declared.policy_rule.PolicyRule.{PolicyRule}
use Rattle.kapi_model.specs.declared.selector.Selector.{Selector}
use Rattle.kapi_model.specs.declared.role.ClusterRole.{ClusterRole}
use Rattle.kapi_rules.proofs.Covers.{same}
use Rattle.kapi_rules.specs.Atoms.{atoms}
use Rattle.kapi_rules.specs.declared.atom.Atom.{Atom}
use Rattle.kapi_aggregation.proofs.Equal.{same_rule_decides}
use Rattle.kapi_aggregation.specs.Roles.{Labelled, selectors_of, takes_from}
use Rattle.kapi_aggregation.specs.Unions.{is_meant, rules_meant, same_rule, union_for, with_rule}
use Rattle.kapi_policy.specs.Laws.{IsInOrder}
use Rattle.kapi_policy.specs.Objects.{PolicyObjects}
use Rattle.kapi_aggregation.proofs.Lists.{has_kept, has_mapped, kept_of, mapped_of, some_at}
use Rattle.kapi_escalation_laws.proofs.Elements.{has_left, has_part, has_right, has_either, part_of, passing}
use Rattle.kapi_escalation_laws.proofs.Entries.{found_in, in_found}
use Rattle.kapi_aggregation.specs.Members.{Has}
use Rattle.kapi_escalation_laws.specs.States.{Labels, cluster_role_at, labelled, labelled_roles}
use Rattle.kapi_escalation_laws.specs.Within.{HasAtom}

-- ---- each rule once

with_of : (found : List PolicyRule) (rule x : PolicyRule) → Has (with_rule found rule) x → Has found x ⊎ (rule ≡ x)
with_of found rule x has = by_case (list_any (λ f. same_rule f rule) found) has
  where
    last : Has found x ⊎ Has (rule ∷ []) x → Has found x ⊎ (rule ≡ x)
    last (inl here) = inl here
    last (inr (inl is)) = inr is
    last (inr (inr never)) = absurd never

    by_case : (b : Bool) → Has (cond b found (found ++ rule ∷ [])) x → Has found x ⊎ (rule ≡ x)
    by_case true there = inl there
    by_case false there = last (has_either found (rule ∷ []) x there)

has_with : (found : List PolicyRule) (rule x : PolicyRule) → Has found x → Has (with_rule found rule) x
has_with found rule x has = by_case (list_any (λ f. same_rule f rule) found)
  where
    by_case : (b : Bool) → Has (cond b found (found ++ rule ∷ [])) x
    by_case true = has
    by_case false = has_left found (rule ∷ []) x has

with_has : (found : List PolicyRule) (rule : PolicyRule) → Has (with_rule found rule) rule
with_has found rule = by_case (list_any (λ f. same_rule f rule) found) refl
  where
    by_case : (b : Bool) → list_any (λ f. same_rule f rule) found ≡ b → Has (cond b found (found ++ rule ∷ [])) rule
    by_case true is =
        let one = passing (λ f. same_rule f rule) found is in
        let equal : one.0 ≡ rule = (same_rule_decides one.0 rule).0 one.1.1 in
        rw (← equal) one.1.0
    by_case false is = has_right found (rule ∷ []) rule (inl refl)

once_of : (found rules : List PolicyRule) (x : PolicyRule) → Has (fold with_rule found rules) x → Has found x ⊎ Has rules x
once_of found [] x has = inl has
once_of found (rule ∷ rules) x has = by_case (once_of (with_rule found rule) rules x has)
  where
    by_first : Has found x ⊎ (rule ≡ x) → Has found x ⊎ Has (rule ∷ rules) x
    by_first (inl here) = inl here
    by_first (inr is) = inr (inl is)

    by_case : Has (with_rule found rule) x ⊎ Has rules x → Has found x ⊎ Has (rule ∷ rules) x
    by_case (inl here) = by_first (with_of found rule x here)
    by_case (inr there) = inr (inr there)

once_keeps : (found rules : List PolicyRule) (x : PolicyRule) → Has found x → Has (fold with_rule found rules) x
once_keeps found [] x has = has
once_keeps found (rule ∷ rules) x has = once_keeps (with_rule found rule) rules x (has_with found rule x has)

once_has : (found rules : List PolicyRule) (x : PolicyRule) → Has rules x → Has (fold with_rule found rules) x
once_has found [] x has = absurd has
once_has found (rule ∷ rules) x (inl is) = once_keeps (with_rule found rule) rules x (rw (← is) (with_has found rule))
once_has found (rule ∷ rules) x (inr has) = once_has (with_rule found rule) rules x has

-- ---- unions

-- a cluster role from which another takes the atom
pub record Source (objects : PolicyObjects) (labels : Labels) (name : List ℕ) (r : ClusterRole) (a : Atom) : Type 0 where
  pub other : List ℕ
  pub role : ClusterRole
  pub found : cluster_role_at objects other ≡ Some role
  pub taken : takes_from (labelled labels (name, r)) (labels other) ≡ true
  pub has : HasAtom role.rules a

no_first : (x : PolicyRule) (rules : List PolicyRule) → Has [] x ⊎ Has rules x → Has rules x
no_first x rules (inl never) = absurd never
no_first x rules (inr has) = has

second : (a b : Bool) → (a && b) ≡ true → b ≡ true
second true b h = h
second false b h = absurd (cc h)

moved : (l m : Labelled) (x : PolicyRule) → l ≡ m → Has m.role.rules x → Has l.role.rules x
moved l m x e has = rw e has

matched : (s : Selector) (l m : Labelled) → l ≡ m → matches s m.labels ≡ true → matches s l.labels ≡ true
matched s l m e h = rw e h

pub union_from : (objects : PolicyObjects) (labels : Labels) (name : List ℕ) (r : ClusterRole) (a : Atom) → IsInOrder objects
    → HasAtom (union_for (labelled_roles objects labels) (labelled labels (name, r))) a → Source objects labels name r a
unfolding union_for
union_from objects labels name r a order has =
    let roles : List Labelled = labelled_roles objects labels in
    let selectors : List Selector = selectors_of (labelled labels (name, r)) in
    let all : List PolicyRule = flat_map (rules_meant roles name) selectors in
    let rule = part_of atoms (fold with_rule [] all) a has in
    let selected = part_of (rules_meant roles name) selectors rule.0 (no_first rule.0 all (once_of [] all rule.0 rule.1.0)) in
    let meant = part_of (λ (l : Labelled). l.role.rules) (filter (is_meant name selected.0) roles) rule.0 selected.1.1 in
    let kept = kept_of (is_meant name selected.0) roles meant.0 meant.1.0 in
    let entry = mapped_of (labelled labels) objects.cluster_roles meant.0 kept.0 in
    let matching : matches selected.0 meant.0.labels ≡ true = second (not (bytes_eq meant.0.name name)) (matches selected.0 meant.0.labels) kept.1 in
    record {
      other = entry.0.0;
      role = entry.0.1;
      found = in_found objects.cluster_roles entry.0 order.cluster_roles entry.1.0;
      taken = some_at (λ s. matches s (labels entry.0.0)) selectors selected.0 selected.1.0 (matched selected.0 (labelled labels entry.0) meant.0 entry.1.1 matching);
      has = has_part atoms entry.0.1.rules rule.0 a (moved (labelled labels entry.0) meant.0 rule.0 entry.1.1 meant.1.1) rule.1.1;
    }

pub union_has : (objects : PolicyObjects) (labels : Labels) (name other : List ℕ) (r c : ClusterRole) (a : Atom) → cluster_role_at objects other ≡ Some c
    → bytes_eq other name ≡ false → takes_from (labelled labels (name, r)) (labels other) ≡ true → HasAtom c.rules a
    → HasAtom (union_for (labelled_roles objects labels) (labelled labels (name, r))) a
unfolding union_for
union_has objects labels name other r c a found apart taken has =
    let roles : List Labelled = labelled_roles objects labels in
    let selectors : List Selector = selectors_of (labelled labels (name, r)) in
    let entry = found_in (bytes_eq other) objects.cluster_roles c found in
    let named : other ≡ entry.0 = same other entry.0 entry.1.1 in
    let one = passing (λ s. matches s (labels other)) selectors taken in
    let rule = part_of atoms c.rules a has in
    let stands : Has roles (labelled labels (other, c)) = has_mapped (labelled labels) objects.cluster_roles (other, c) (rw named entry.1.0) in
    let kept : Has (filter (is_meant name one.0) roles) (labelled labels (other, c)) =
    has_kept (is_meant name one.0) roles (labelled labels (other, c)) stands (rw (apart, one.1.1) refl) in
    let meant : Has (rules_meant roles name one.0) rule.0 =
    has_part (λ (l : Labelled). l.role.rules) (filter (is_meant name one.0) roles) (labelled labels (other, c)) rule.0 kept rule.1.0 in
    has_part atoms (fold with_rule [] (flat_map (rules_meant roles name) selectors)) rule.0 a
    (once_has [] (flat_map (rules_meant roles name) selectors) rule.0 (has_part (rules_meant roles name) selectors one.0 rule.0 one.1.0 meant)) rule.1.1
