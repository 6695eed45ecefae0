-- The labels of cluster roles, after a write.
use Rattle.std.proofs.Common.{◌≡◌, ℕ, List, Bool, true, false, if◌then◌else◌, Option, Some, None, refl, ap, ◌∙◌}
use Rattle.std.specs.Prelude.{option_and_then}
use Rattle.std.specs.Map.{lookup}
use Rattle.std.specs.Str.{bytes_eq}
use Rattle.serde_json.specs.Data.{Data}
use Rattle.kapi_policy.proofs.Sets.{delete_sets, put_sets}
use Rattle.kapi_store.proofs.Keys.{key_total}
use Rattle.kapi_store.specs.Changes.{placed}
use Rattle.kapi_store.specs.Keys.{is_key, key_cmp}
use Rattle.kapi_store.specs.declared.key.Key.{Key}
use Rattle.kapi_escalation.specs.Kind.{policy_kind}
use Rattle.kapi_escalation.specs.Reading.{key_at, put_at}
use Rattle.kapi_escalation.specs.declared.kind.PolicyKind.{PolicyKind}
use Rattle.kapi_escalation.specs.declared.kind.PolicyKind.TheVariants as kind
use Rattle.kapi_aggregation.specs.Rewriting.{role_key}
use Rattle.kapi_aggregation.specs.Roles.{labels_in}
use Rattle.kapi_escalation_laws.specs.Steps.{DropsLabels, KeepsLabels, SetsLabels}
use Rattle.kapi_escalation_laws.proofs.StoredRoles.{found_by_name, found_nowhere}
use Rattle.kapi_escalation_laws.specs.StoredStates.{AreInOrder, labels_at}

-- what is found at a key, after a write
found_placed : (k : Key) (left : Option Data) (os : List (Key × Data)) → AreInOrder os → (l : Key)
    → lookup (is_key l) (placed k left os) ≡ (if is_key l k then left else lookup (is_key l) os)
unfolding placed
found_placed k (Some tree) os sorted l = put_sets key_cmp key_total os k tree l
found_placed k None os sorted l = delete_sets key_cmp key_total os k sorted l

labels_if : (b : Bool) (x y : Option Data) → option_and_then labels_in (if b then x else y) ≡ (if b then option_and_then labels_in x else option_and_then labels_in y)
labels_if true x y = refl
labels_if false x y = refl

labels_placed : (k : Key) (left : Option Data) (os : List (Key × Data)) → AreInOrder os → (q : List ℕ)
    → labels_at (placed k left os) q ≡ (if is_key (role_key q) k then option_and_then labels_in left else labels_at os q)
labels_placed k left os sorted q =
    ap (option_and_then labels_in) (found_placed k left os sorted (role_key q))
    ∙ labels_if (is_key (role_key q) k) left (lookup (is_key (role_key q)) os)

module _ (k : Key) (left : Option Data) (os : List (Key × Data)) (sorted : AreInOrder os) where
  -- the labels of the cluster role that was written
  pub labels_set : policy_kind k ≡ Some kind.ClusterRole → (q : List ℕ)
      → labels_at (placed k left os) q ≡ (if bytes_eq q k.name then option_and_then labels_in left else labels_at os q)
  labels_set at q = labels_placed k left os sorted q ∙ ap (λ b. if b then option_and_then labels_in left else labels_at os q) (found_by_name q k at)

  -- the labels of the other cluster roles stay
  pub labels_kept : (o : Option PolicyKind) → policy_kind k ≡ o → (o ≡ Some kind.ClusterRole → ⊥) → KeepsLabels (labels_at os) (labels_at (placed k left os))
  labels_kept o at other q = labels_placed k left os sorted q ∙ ap (λ b. if b then option_and_then labels_in left else labels_at os q) (found_nowhere q k o at other)

-- a tree that is put
pub put_labels : (k : Key) (tree : Data) (os : List (Key × Data)) → AreInOrder os → (of : PolicyKind) → policy_kind k ≡ Some of
    → SetsLabels (put_at of k tree) (labels_in tree) (labels_at os) (labels_at (placed k (Some tree) os))
put_labels k tree os sorted kind.Role at = labels_kept k (Some tree) os sorted (Some kind.Role) at (λ never. cc never)
put_labels k tree os sorted kind.RoleBinding at = labels_kept k (Some tree) os sorted (Some kind.RoleBinding) at (λ never. cc never)
put_labels k tree os sorted kind.ClusterRole at = labels_set k (Some tree) os sorted at
put_labels k tree os sorted kind.ClusterRoleBinding at = labels_kept k (Some tree) os sorted (Some kind.ClusterRoleBinding) at (λ never. cc never)

-- an object that is deleted
pub deleted_labels : (k : Key) (os : List (Key × Data)) → AreInOrder os → (of : PolicyKind) → policy_kind k ≡ Some of
    → DropsLabels (key_at of k) (labels_at os) (labels_at (placed k None os))
deleted_labels k os sorted kind.Role at = labels_kept k None os sorted (Some kind.Role) at (λ never. cc never)
deleted_labels k os sorted kind.RoleBinding at = labels_kept k None os sorted (Some kind.RoleBinding) at (λ never. cc never)
deleted_labels k os sorted kind.ClusterRole at =
    λ q apart. labels_set k None os sorted at q ∙ ap (λ b. if b then None else labels_at os q) apart
deleted_labels k os sorted kind.ClusterRoleBinding at = labels_kept k None os sorted (Some kind.ClusterRoleBinding) at (λ never. cc never)
