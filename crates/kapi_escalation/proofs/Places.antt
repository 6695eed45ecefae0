-- The keys of policy objects, and the order of their places.
use Rattle.std.proofs.Common.{◌≡◌, ℕ, Bool, true, false, cond, List, [], ◌∷◌, Option, None, Some, length, refl, sym, ap, ◌∙◌, subst}
use Rattle.std.specs.Prelude.{codes, ◌==◌}
use Rattle.std.specs.Cmp.{tied_itself}
use Rattle.std.specs.Cmp.Lexicographic.{slice_cmp, nat_list_cmp_total}
use Rattle.std.specs.Ordering.{nat_cmp, ordering_then}
use Rattle.std.specs.Str.{bytes_eq}
use Rattle.std.specs.declared.cmp.Ordering.TheVariants.{Equal}
use Rattle.std.proofs.Math.Dec.{eqb-suc-zero}
use Rattle.std.proofs.lemmas.Slice.Eq.{bytes_eq-Decides}
use Rattle.kapi_model.specs.Kinds.{rbac_group}
use Rattle.kapi_policy.specs.Objects.{name_cmp, place_cmp}
use Rattle.kapi_policy.specs.declared.change.NamespacedName.{NamespacedName}
use Rattle.kapi_store.specs.Keys.{key_cmp}
use Rattle.kapi_store.specs.declared.key.Key.{Key}
use Rattle.kapi_escalation.specs.Kind.{cluster_kind, place_of, policy_kind}
use Rattle.kapi_escalation.specs.Reading.{role_at, role_binding_at, cluster_role_at, cluster_role_binding_at}
use Rattle.kapi_escalation.specs.declared.kind.PolicyKind.{PolicyKind}
use Rattle.kapi_escalation.specs.declared.kind.PolicyKind.TheVariants as kind

-- the resource of a kind
abbrev resource_of : PolicyKind → List ℕ
resource_of kind.Role = codes "roles"
resource_of kind.RoleBinding = codes "rolebindings"
resource_of kind.ClusterRole = codes "clusterroles"
resource_of kind.ClusterRoleBinding = codes "clusterrolebindings"

-- the namespaces in which an object of a kind may be
abbrev IsIn : PolicyKind → List ℕ → Type 0
IsIn kind.Role namespace = Unit {0}
IsIn kind.RoleBinding namespace = Unit {0}
IsIn kind.ClusterRole namespace = namespace ≡ []
IsIn kind.ClusterRoleBinding namespace = namespace ≡ []

-- a key at which an object of a kind is
abbrev IsPlace : PolicyKind → Key → Type 0
IsPlace of k = (k.group ≡ rbac_group) × (k.resource ≡ resource_of of) × IsIn of k.namespace

same : (a b : List ℕ) → bytes_eq a b ≡ true → a ≡ b
same a b h = (bytes_eq-Decides a b).0 h

nothing : (s : List ℕ) → (length s == 0) ≡ true → s ≡ []
nothing [] h = refl
nothing (b ∷ s) h = absurd (let never = sym (eqb-suc-zero (length s)) ∙ h in cc never)

module _ (k : Key) (of : PolicyKind) (group : k.group ≡ rbac_group) where
  -- the key's group, resource and namespace, if it is of that kind
  is_one : (one : PolicyKind) → Some one ≡ Some of → k.resource ≡ resource_of one → IsIn one k.namespace → IsPlace of k
  is_one one h resource inside = let P : PolicyKind → Type 0 = λ p. IsPlace p k in let it : one ≡ of = cc h in subst P it (group, resource, inside)

  by_cluster_binding : (b : Bool) → bytes_eq k.resource (codes "clusterrolebindings") ≡ b → k.namespace ≡ [] → cond b (Some kind.ClusterRoleBinding) None ≡ Some of → IsPlace of k
  by_cluster_binding true at wide h = is_one kind.ClusterRoleBinding h (same k.resource (codes "clusterrolebindings") at) wide
  by_cluster_binding false at wide h = absurd (cc h)

  by_cluster_role : (b : Bool) → bytes_eq k.resource (codes "clusterroles") ≡ b → k.namespace ≡ []
      → cond b (Some kind.ClusterRole) (cond (bytes_eq k.resource (codes "clusterrolebindings")) (Some kind.ClusterRoleBinding) None) ≡ Some of → IsPlace of k
  by_cluster_role true at wide h = is_one kind.ClusterRole h (same k.resource (codes "clusterroles") at) wide
  by_cluster_role false at wide h = by_cluster_binding (bytes_eq k.resource (codes "clusterrolebindings")) refl wide h

  by_namespace : (b : Bool) → (length k.namespace == 0) ≡ b
      → cond b (cond (bytes_eq k.resource (codes "clusterroles")) (Some kind.ClusterRole) (cond (bytes_eq k.resource (codes "clusterrolebindings")) (Some kind.ClusterRoleBinding) None)) None ≡ Some of
      → IsPlace of k
  by_namespace true at h = by_cluster_role (bytes_eq k.resource (codes "clusterroles")) refl (nothing k.namespace at) h
  by_namespace false at h = absurd (cc h)

  by_binding : (b : Bool) → bytes_eq k.resource (codes "rolebindings") ≡ b → cond b (Some kind.RoleBinding) (cluster_kind k) ≡ Some of → IsPlace of k
  by_binding true at h = is_one kind.RoleBinding h (same k.resource (codes "rolebindings") at) tt
  by_binding false at h = by_namespace (length k.namespace == 0) refl h

  by_role : (b : Bool) → bytes_eq k.resource (codes "roles") ≡ b → cond b (Some kind.Role) (cond (bytes_eq k.resource (codes "rolebindings")) (Some kind.RoleBinding) (cluster_kind k)) ≡ Some of → IsPlace of k
  by_role true at h = is_one kind.Role h (same k.resource (codes "roles") at) tt
  by_role false at h = by_binding (bytes_eq k.resource (codes "rolebindings")) refl h

-- the parts of a key at which an object of a kind is
is_place : (k : Key) (of : PolicyKind) → policy_kind k ≡ Some of → IsPlace of k
unfolding policy_kind
is_place k of h = by_group (bytes_eq k.group rbac_group) refl h
  where
    by_group : (b : Bool) → bytes_eq k.group rbac_group ≡ b
        → cond b (cond (bytes_eq k.resource (codes "roles")) (Some kind.Role) (cond (bytes_eq k.resource (codes "rolebindings")) (Some kind.RoleBinding) (cluster_kind k))) None ≡ Some of
        → IsPlace of k
    by_group true at h = by_role k of (same k.group rbac_group at) (bytes_eq k.resource (codes "roles")) refl h
    by_group false at h = absurd (cc h)

-- the key of a cluster role is of the group and the resource, and in no namespace
pub cluster_role_key : (k : Key) → policy_kind k ≡ Some kind.ClusterRole → (k.group ≡ rbac_group) × (k.resource ≡ codes "clusterroles") × (k.namespace ≡ [])
cluster_role_key k h = is_place k kind.ClusterRole h

-- ---- the order of places

level : (s t w : List ℕ) → s ≡ w → t ≡ w → slice_cmp nat_cmp s t ≡ Equal
level s t w left right = ap (λ x. slice_cmp nat_cmp x t) (left ∙ sym right) ∙ tied_itself nat_list_cmp_total t

-- keys of one kind are compared by namespace and name
pub by_place : (k l : Key) (of : PolicyKind) → policy_kind k ≡ Some of → policy_kind l ≡ Some of → place_cmp (place_of k) (place_of l) ≡ key_cmp k l
by_place k l of left right =
    let p = is_place k of left in
    let q = is_place l of right in
    let group : slice_cmp nat_cmp k.group l.group ≡ Equal = level k.group l.group rbac_group p.0 q.0 in
    let resource : slice_cmp nat_cmp k.resource l.resource ≡ Equal = level k.resource l.resource (resource_of of) p.1 q.1 in
    sym (ap (λ o. ordering_then o (ordering_then (slice_cmp nat_cmp k.resource l.resource) (place_cmp (place_of k) (place_of l)))) group
    ∙ ap (λ o. ordering_then o (place_cmp (place_of k) (place_of l))) resource)

-- keys of one kind in no namespace are compared by name
pub by_name : (k l : Key) (of : PolicyKind) → policy_kind k ≡ Some of → policy_kind l ≡ Some of → k.namespace ≡ [] → l.namespace ≡ [] → name_cmp k.name l.name ≡ key_cmp k l
by_name k l of left right here there =
    let namespace : slice_cmp nat_cmp k.namespace l.namespace ≡ Equal = level k.namespace l.namespace [] here there in
    sym (ap (λ o. ordering_then o (name_cmp k.name l.name)) namespace) ∙ by_place k l of left right

-- ---- the four kinds

role_from : (k : Key) (q : NamespacedName) (o : Option PolicyKind) → role_at o k ≡ Some q → (o ≡ Some kind.Role) × (place_of k ≡ q)
role_from k q (Some kind.Role) h = (refl, cc h)
role_from k q (Some kind.RoleBinding) h = absurd (cc h)
role_from k q (Some kind.ClusterRole) h = absurd (cc h)
role_from k q (Some kind.ClusterRoleBinding) h = absurd (cc h)
role_from k q None h = absurd (cc h)

role_binding_from : (k : Key) (q : NamespacedName) (o : Option PolicyKind) → role_binding_at o k ≡ Some q → (o ≡ Some kind.RoleBinding) × (place_of k ≡ q)
role_binding_from k q (Some kind.Role) h = absurd (cc h)
role_binding_from k q (Some kind.RoleBinding) h = (refl, cc h)
role_binding_from k q (Some kind.ClusterRole) h = absurd (cc h)
role_binding_from k q (Some kind.ClusterRoleBinding) h = absurd (cc h)
role_binding_from k q None h = absurd (cc h)

cluster_role_from : (k : Key) (q : List ℕ) (o : Option PolicyKind) → cluster_role_at o k ≡ Some q → (o ≡ Some kind.ClusterRole) × (k.name ≡ q)
cluster_role_from k q (Some kind.Role) h = absurd (cc h)
cluster_role_from k q (Some kind.RoleBinding) h = absurd (cc h)
cluster_role_from k q (Some kind.ClusterRole) h = (refl, cc h)
cluster_role_from k q (Some kind.ClusterRoleBinding) h = absurd (cc h)
cluster_role_from k q None h = absurd (cc h)

cluster_role_binding_from : (k : Key) (q : List ℕ) (o : Option PolicyKind) → cluster_role_binding_at o k ≡ Some q → (o ≡ Some kind.ClusterRoleBinding) × (k.name ≡ q)
cluster_role_binding_from k q (Some kind.Role) h = absurd (cc h)
cluster_role_binding_from k q (Some kind.RoleBinding) h = absurd (cc h)
cluster_role_binding_from k q (Some kind.ClusterRole) h = absurd (cc h)
cluster_role_binding_from k q (Some kind.ClusterRoleBinding) h = (refl, cc h)
cluster_role_binding_from k q None h = absurd (cc h)

pub roles_ordered : (k l : Key) (q r : NamespacedName) → role_at (policy_kind k) k ≡ Some q → role_at (policy_kind l) l ≡ Some r → place_cmp q r ≡ key_cmp k l
roles_ordered k l q r left right =
    let p = role_from k q (policy_kind k) left in
    let s = role_from l r (policy_kind l) right in
    rw (sym p.1, sym s.1) (by_place k l kind.Role p.0 s.0)

pub role_bindings_ordered : (k l : Key) (q r : NamespacedName) → role_binding_at (policy_kind k) k ≡ Some q → role_binding_at (policy_kind l) l ≡ Some r → place_cmp q r ≡ key_cmp k l
role_bindings_ordered k l q r left right =
    let p = role_binding_from k q (policy_kind k) left in
    let s = role_binding_from l r (policy_kind l) right in
    rw (sym p.1, sym s.1) (by_place k l kind.RoleBinding p.0 s.0)

pub cluster_roles_ordered : (k l : Key) (q r : List ℕ) → cluster_role_at (policy_kind k) k ≡ Some q → cluster_role_at (policy_kind l) l ≡ Some r → name_cmp q r ≡ key_cmp k l
cluster_roles_ordered k l q r left right =
    let p = cluster_role_from k q (policy_kind k) left in
    let s = cluster_role_from l r (policy_kind l) right in
    rw (sym p.1, sym s.1) (by_name k l kind.ClusterRole p.0 s.0 (is_place k kind.ClusterRole p.0).2 (is_place l kind.ClusterRole s.0).2)

pub cluster_role_bindings_ordered : (k l : Key) (q r : List ℕ) → cluster_role_binding_at (policy_kind k) k ≡ Some q → cluster_role_binding_at (policy_kind l) l ≡ Some r → name_cmp q r ≡ key_cmp k l
cluster_role_bindings_ordered k l q r left right =
    let p = cluster_role_binding_from k q (policy_kind k) left in
    let s = cluster_role_binding_from l r (policy_kind l) right in
    rw (sym p.1, sym s.1) (by_name k l kind.ClusterRoleBinding p.0 s.0 (is_place k kind.ClusterRoleBinding p.0).2 (is_place l kind.ClusterRoleBinding s.0).2)
