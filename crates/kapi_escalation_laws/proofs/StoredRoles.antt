-- The cluster roles of the policy of some objects, and those among the objects.
use Rattle.std.proofs.Common.{◌≡◌, inl, inr, ℕ, List, [], ◌∷◌, Bool, true, false, cond, if◌then◌else◌, ◌&&◌, ◌==◌, Option, Some, None, option_map, length, refl, sym, ap, ◌∙◌, map, codes}
use Rattle.std.proofs.lemmas.Map.Text.{is_eq-slice_cmp}
use Rattle.std.proofs.lemmas.Slice.Eq.{bytes_eq-Decides}
use Rattle.std.specs.Cmp.{tied_itself}
use Rattle.std.specs.List.{AllByRecursion, filter}
use Rattle.std.specs.List.Sorted.{IsStrictlySortedBy}
use Rattle.std.specs.Map.{keys_of, lookup}
use Rattle.std.specs.Ordering.{is_eq}
use Rattle.std.specs.Str.{bytes_eq}
use Rattle.std.specs.declared.cmp.Ordering.{Ordering}
use Rattle.std.specs.declared.cmp.Ordering.TheVariants.{Less, Equal, Greater}
use Rattle.serde_json.specs.Data.{Data}
use Rattle.kapi_model.specs.Kinds.{rbac_group}
use Rattle.kapi_rbac_types.specs.Trees.{cluster_role_of}
use Rattle.kapi_store.proofs.Keys.{key_same, key_total}
use Rattle.kapi_store.specs.Keys.{is_key, key_cmp}
use Rattle.kapi_store.specs.declared.key.Key.{Key}
use Rattle.kapi_escalation.proofs.Places.{cluster_role_key}
use Rattle.kapi_escalation.specs.Kind.{policy_kind}
use Rattle.kapi_escalation.specs.Reading.{cluster_role_at as name_at, cluster_role_place, collected, entry_if, policy_objects}
use Rattle.kapi_escalation.specs.declared.kind.PolicyKind.{PolicyKind}
use Rattle.kapi_escalation.specs.declared.kind.PolicyKind.TheVariants as kind
use Rattle.kapi_aggregation.specs.Rewriting.{role_key}
use Rattle.kapi_aggregation.specs.Roles.{is_cluster_role, labelled_tree, labels_in, roles_in}
use Rattle.kapi_aggregation.specs.Members.{Has}
use Rattle.kapi_escalation_laws.specs.States.{Labels, cluster_role_at, labelled, labelled_roles}
use Rattle.kapi_escalation_laws.specs.StoredStates.{AreInOrder, labels_at}

-- ---- keys

equal_key : (a b : Key) → is_key a b ≡ true → a ≡ b
equal_key a b h = key_same a b (equal (key_cmp a b) h)
  where
    equal : (r : Ordering) → is_eq r ≡ true → r ≡ Equal
    equal Less never = absurd (cc never)
    equal Equal is = refl
    equal Greater never = absurd (cc never)

-- a name is found by its key
pub role_key_found : (q name : List ℕ) → is_key (role_key q) (role_key name) ≡ bytes_eq q name
role_key_found q name = is_eq-slice_cmp q name

-- the place of a cluster role
pub role_key_kind : (name : List ℕ) → policy_kind (role_key name) ≡ Some kind.ClusterRole
unfolding policy_kind
role_key_kind name = refl

-- the key of a cluster role is the place of its name
pub role_key_is : (k : Key) → policy_kind k ≡ Some kind.ClusterRole → k ≡ role_key k.name
role_key_is k h =
    let parts = cluster_role_key k h in
    λ i. record { group = parts.0 i; resource = parts.1 i; namespace = parts.2 i; name = k.name }

-- what is a cluster role is found by its name
pub found_by_name : (q : List ℕ) (k : Key) → policy_kind k ≡ Some kind.ClusterRole → is_key (role_key q) k ≡ bytes_eq q k.name
found_by_name q k h = ap (is_key (role_key q)) (role_key_is k h) ∙ role_key_found q k.name

-- an object that is no cluster role is not found by its name
pub found_nowhere : (q : List ℕ) (k : Key) (o : Option PolicyKind) → policy_kind k ≡ o → (o ≡ Some kind.ClusterRole → ⊥) → is_key (role_key q) k ≡ false
found_nowhere q k o h other = by_case (is_key (role_key q) k) refl
  where
    by_case : (b : Bool) → is_key (role_key q) k ≡ b → b ≡ false
    by_case true is = absurd (other (sym h ∙ ap policy_kind (sym (equal_key (role_key q) k is)) ∙ role_key_kind q))
    by_case false is = refl

-- ---- the cluster roles among objects

-- the place of a stored cluster role, by either test
by_tests : (k : Key) (g r b l c d : Bool) → (c ≡ true → r ≡ false) → (c ≡ true → b ≡ false)
    → name_at (cond g (cond r (Some kind.Role) (cond b (Some kind.RoleBinding) (cond l (cond c (Some kind.ClusterRole) (cond d (Some kind.ClusterRoleBinding) None)) None))) None) k
    ≡ (if g && (c && l) then Some k.name else None)
by_tests k false r b l c d first second = refl
by_tests k true true b l true d first second = absurd (let never = first refl in cc)
by_tests k true true b l false d first second = refl
by_tests k true false true l true d first second = absurd (let never = second refl in cc)
by_tests k true false true l false d first second = refl
by_tests k true false false false true d first second = refl
by_tests k true false false false false d first second = refl
by_tests k true false false true true d first second = refl
by_tests k true false false true false true first second = refl
by_tests k true false false true false false first second = refl

other_text : (text name other : List ℕ) → bytes_eq name other ≡ false → bytes_eq text name ≡ true → bytes_eq text other ≡ false
other_text text name other apart is =
    let same : text ≡ name = (bytes_eq-Decides text name).0 is in
    ap (λ (t : List ℕ). bytes_eq t other) same ∙ apart

pub place_if : (k : Key) → cluster_role_place k ≡ (if is_cluster_role k then Some k.name else None)
unfolding policy_kind is_cluster_role
place_if k =
    by_tests k (bytes_eq k.group rbac_group) (bytes_eq k.resource (codes "roles")) (bytes_eq k.resource (codes "rolebindings")) (length k.namespace == 0)
    (bytes_eq k.resource (codes "clusterroles")) (bytes_eq k.resource (codes "clusterrolebindings"))
    (other_text k.resource (codes "clusterroles") (codes "roles") refl)
    (other_text k.resource (codes "clusterroles") (codes "rolebindings") refl)

-- the place is that of a cluster role
kind_of_place : (k : Key) (name : List ℕ) (o : Option PolicyKind) → name_at o k ≡ Some name → (o ≡ Some kind.ClusterRole) × (k.name ≡ name)
kind_of_place k name (Some kind.Role) h = absurd (cc h)
kind_of_place k name (Some kind.RoleBinding) h = absurd (cc h)
kind_of_place k name (Some kind.ClusterRole) h = (refl, cc h)
kind_of_place k name (Some kind.ClusterRoleBinding) h = absurd (cc h)
kind_of_place k name None h = absurd (cc h)

kind_if : (k : Key) → is_cluster_role k ≡ true → policy_kind k ≡ Some kind.ClusterRole
kind_if k is =
    let place : cluster_role_place k ≡ Some k.name = place_if k ∙ ap (λ b. if b then Some k.name else None) is in
    (kind_of_place k k.name (policy_kind k) place).0

-- ---- what stands at a key

-- the keys of entries that come later are above
above : (k : Key) (os : List (Key × Data)) (e : Key × Data) → AllByRecursion (λ y. key_cmp k y ≡ Less) (keys_of os) → Has os e → key_cmp k e.0 ≡ Less
above k [] e all has = absurd has
above k (x ∷ os) e all (inl same) = rw (← same) all.0
above k (x ∷ os) e all (inr has) = above k os e all.1 has

itself : (k : Key) → is_key k k ≡ true
itself k = ap is_eq (tied_itself key_total k)

not_less : (k : Key) → key_cmp k k ≡ Less → ⊥
not_less k h = let never : Equal ≡ Less = sym (tied_itself key_total k) ∙ h in cc never

-- a later key is not found as an earlier one
apart : (a b : Key) → key_cmp a b ≡ Less → is_key b a ≡ false
apart a b less = by_case (is_key b a) refl
  where
    by_case : (t : Bool) → is_key b a ≡ t → t ≡ false
    by_case true is = absurd (not_less a (ap (key_cmp a) (sym (equal_key b a is)) ∙ less))
    by_case false is = refl

-- an object is what its key finds
pub in_found : (os : List (Key × Data)) (e : Key × Data) → AreInOrder os → Has os e → lookup (is_key e.0) os ≡ Some e.1
unfolding IsStrictlySortedBy
in_found [] e sorted has = absurd has
in_found (x ∷ os) e sorted (inl same) = rw (same, itself e.0) refl
in_found (x ∷ os) e sorted (inr has) = rw (apart x.0 e.0 (above x.0 os e sorted.0 has)) (in_found os e sorted.1 has)

-- ---- both lists of cluster roles

module _ (labels : Labels) where
  same_roles : (os : List (Key × Data)) → ((e : Key × Data) → Has os e → is_cluster_role e.0 ≡ true → labels e.0.name ≡ labels_in e.1)
      → map (labelled labels) (collected cluster_role_place cluster_role_of os) ≡ roles_in os
  unfolding collected
  same_roles [] known = refl
  same_roles (e ∷ os) known = by_case (is_cluster_role e.0) refl (same_roles os (λ x has is. known x (inr has) is))
    where
      by_case : (b : Bool) → is_cluster_role e.0 ≡ b → map (labelled labels) (collected cluster_role_place cluster_role_of os) ≡ roles_in os
          → map (labelled labels) (entry_if (cluster_role_place e.0) (cluster_role_of e.1) (collected cluster_role_place cluster_role_of os))
          ≡ map labelled_tree (cond b (e ∷ filter (λ x. is_cluster_role x.0) os) (filter (λ x. is_cluster_role x.0) os))
      by_case true is rest =
          rw (place_if e.0, is) (λ i. record { name = e.0.name; labels = known e (inl refl) is i; role = cluster_role_of e.1 } ∷ rest i)
      by_case false is rest = rw (place_if e.0, is) rest

-- the cluster roles of the policy, with their labels, are those among the objects
pub labelled_are : (os : List (Key × Data)) → AreInOrder os → labelled_roles (policy_objects os) (labels_at os) ≡ roles_in os
unfolding policy_objects
labelled_are os sorted = same_roles (labels_at os) os known
  where
    known : (e : Key × Data) → Has os e → is_cluster_role e.0 ≡ true → labels_at os e.0.name ≡ labels_in e.1
    known e has is =
        let key : e.0 ≡ role_key e.0.name = role_key_is e.0 (kind_if e.0 is) in
        let found : lookup (is_key (role_key e.0.name)) os ≡ Some e.1 = ap (λ (k : Key). lookup (is_key k) os) (sym key) ∙ in_found os e sorted has in
        rw found refl

-- ---- the cluster role of a name

found_same : (name : List ℕ) (os : List (Key × Data))
    → lookup (bytes_eq name) (collected cluster_role_place cluster_role_of os) ≡ option_map cluster_role_of (lookup (is_key (role_key name)) os)
unfolding collected
found_same name [] = refl
found_same name (e ∷ os) = by_case (is_cluster_role e.0) refl (found_same name os)
  where
    by_test : (b : Bool) → lookup (bytes_eq name) (collected cluster_role_place cluster_role_of os) ≡ option_map cluster_role_of (lookup (is_key (role_key name)) os)
        → cond b (Some (cluster_role_of e.1)) (lookup (bytes_eq name) (collected cluster_role_place cluster_role_of os))
        ≡ option_map cluster_role_of (cond b (Some e.1) (lookup (is_key (role_key name)) os))
    by_test true rest = refl
    by_test false rest = rest

    by_case : (b : Bool) → is_cluster_role e.0 ≡ b
        → lookup (bytes_eq name) (collected cluster_role_place cluster_role_of os) ≡ option_map cluster_role_of (lookup (is_key (role_key name)) os)
        → lookup (bytes_eq name) (entry_if (cluster_role_place e.0) (cluster_role_of e.1) (collected cluster_role_place cluster_role_of os))
        ≡ option_map cluster_role_of (cond (is_key (role_key name) e.0) (Some e.1) (lookup (is_key (role_key name)) os))
    by_case true is rest = rw (place_if e.0, is, found_by_name name e.0 (kind_if e.0 is)) (by_test (bytes_eq name e.0.name) rest)
    by_case false is rest =
        let none : cluster_role_place e.0 ≡ None = place_if e.0 ∙ ap (λ b. if b then Some e.0.name else None) is in
        rw (none, not_found none) rest
      where
        not_found : cluster_role_place e.0 ≡ None → is_key (role_key name) e.0 ≡ false
        not_found none = found_nowhere name e.0 (policy_kind e.0) refl (λ at. let never : None ≡ Some e.0.name = sym none ∙ ap (λ o. name_at o e.0) at in cc never)

-- the cluster role of a name is read from the object at its key
pub role_found : (os : List (Key × Data)) (name : List ℕ) (tree : Data) → lookup (is_key (role_key name)) os ≡ Some tree
    → cluster_role_at (policy_objects os) name ≡ Some (cluster_role_of tree)
unfolding policy_objects
role_found os name tree found = found_same name os ∙ ap (option_map cluster_role_of) found
