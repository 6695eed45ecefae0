-- The roles whose rules were taken in a scope.
use Rattle.std.specs.Prelude.{◌≡◌, ℕ, Bool, true, List, []}
use denote.Bor.{Bor}
use Rattle.std.specs.BTreeSet.{BTreeSet, contains}
use Rattle.std.specs.List.{list_any}
use Rattle.std.specs.Option.{unwrap_or}
use Rattle.std.specs.declared.cmp.Ordering.{Ordering}
use Rattle.kapi_model.specs.declared.kinds.RoleKind.{RoleKind}
use Rattle.kapi_model.specs.declared.kinds.RoleKind.TheVariants as role_kind
use Rattle.kapi_model.specs.declared.policy_rule.PolicyRule.{PolicyRule}
use Rattle.kapi_policy.specs.Decided.{rules_of_kind}
use Rattle.kapi_policy.specs.Objects.{PolicyObjects, name_cmp}
use Rattle.kapi_index.specs.declared.held_once.Taken.{Taken}

-- names by their bytes
abbrev pub by_bytes : Bor (List ℕ) → Bor (List ℕ) → Ordering
by_bytes a b = name_cmp a.now b.now

-- the rules of the roles of a kind and of some names, as bindings in the namespace refer to them, are in the list: what
-- one of them passes, a rule of the list passes
abbrev pub AreListed : PolicyObjects → List ℕ → RoleKind → BTreeSet (Bor (List ℕ)) → List PolicyRule → Type 0
AreListed objects namespace kind names list =
    (name : Bor (List ℕ)) → contains by_bytes names name ≡ true
    → (test : PolicyRule → Bool) → list_any test (unwrap_or (rules_of_kind objects kind name.now namespace) []) ≡ true → list_any test list ≡ true

-- the rules of all roles that were taken are in the list
abbrev pub AreTaken : PolicyObjects → List ℕ → Taken → List PolicyRule → Type 0
AreTaken objects namespace taken list =
    AreListed objects namespace role_kind.Role taken.roles list × AreListed objects namespace role_kind.ClusterRole taken.cluster_roles list
