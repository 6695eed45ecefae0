-- Lists in the order of their keys, after puts and deletions.
use Rattle.std.proofs.Common.{◌≡◌, List, [], ◌∷◌, Bool, true, false, cond, Option, Some, None, refl, sym, ap, ◌∙◌}
use Rattle.std.specs.BTreeMap.{insert_entry, is_at}
use Rattle.std.specs.Cmp.{IsTotalOrder, eq_by_cmp_equiv}
use Rattle.std.specs.Cmp.Lexicographic.{nat_list_cmp_total}
use Rattle.std.specs.List.{AllByRecursion}
use Rattle.std.specs.List.Sorted.{IsStrictlySortedBy}
use Rattle.std.specs.Map.{keys_of, lookup, remove_entry}
use Rattle.std.specs.Ordering.{is_eq, match_ordering, ordering_reverse}
use Rattle.std.specs.declared.cmp.Ordering.{Ordering}
use Rattle.std.specs.declared.cmp.Ordering.TheVariants.{Less, Equal, Greater}
use Rattle.std.proofs.lemmas.Map.{lookup-remove_entry}
use Rattle.std.proofs.lemmas.Map.Keys.{IsDistinct-from_sorted}
use Rattle.kapi_policy.specs.contracts.change.NamespacedNameOrd.TheImpl.Laws as laws
use Rattle.kapi_policy.specs.declared.change.PolicyChange.{PolicyChange}
use Rattle.kapi_policy.specs.declared.change.PolicyChange.TheVariants as change
use Rattle.kapi_policy.specs.declared.change.PolicyKey.{PolicyKey}
use Rattle.kapi_policy.specs.declared.change.PolicyKey.TheVariants as key
use Rattle.kapi_policy.specs.declared.change.PolicyPut.{PolicyPut}
use Rattle.kapi_policy.specs.declared.change.PolicyPut.TheVariants as put
use Rattle.kapi_policy.specs.Laws.{IsInOrder, IsWith, IsWithout, Sets}
use Rattle.kapi_policy.specs.Objects.{PolicyObjects, applied, name_cmp, no_objects, place_cmp, with_object, without_object}

-- places are totally ordered
place_total : IsTotalOrder place_cmp
place_total = laws.total-law

name_total : IsTotalOrder name_cmp
name_total = nat_list_cmp_total

module _ {K : Type 0} (cmp : K → K → Ordering) (o : IsTotalOrder cmp) where
  -- keys that compare as equal to one compare as equal to each other
  both_equal : (q k l : K) → cmp q l ≡ Equal → cmp q k ≡ Equal → cmp k l ≡ Equal
  both_equal q k l h i = sym (o.congr q k l i) ∙ h

  -- a key is found as one that compares as equal to it
  found_alike : (q k l : K) → cmp k l ≡ Equal → cmp q l ≡ cmp q k
  found_alike q k l h = o.antisymm q l ∙ ap ordering_reverse (sym (o.congr k l q h)) ∙ sym (o.antisymm q k)

  turned : (q k : K) → is_eq (cmp k q) ≡ is_eq (cmp q k)
  turned q k = ap is_eq (o.antisymm k q) ∙ reversed (cmp q k)
    where
      reversed : (r : Ordering) → is_eq (ordering_reverse r) ≡ is_eq r
      reversed Less = refl
      reversed Equal = refl
      reversed Greater = refl

  below_all : (k l : K) → cmp k l ≡ Less → (ks : List K) → AllByRecursion (λ y. cmp l y ≡ Less) ks → AllByRecursion (λ y. cmp k y ≡ Less) ks
  below_all k l is [] h = tt
  below_all k l is (y ∷ ys) h = (o.trans k l y is h.0, below_all k l is ys h.1)

module _ {K X : Type 0} (cmp : K → K → Ordering) (o : IsTotalOrder cmp) where
  twice : (b : Bool) (x y : Option X) (rest : Option X) → cond b x rest ≡ cond b x (cond b y rest)
  twice true x y rest = refl
  twice false x y rest = refl

  apart : (a b : Ordering) (x y rest : Option X) → (a ≡ Equal → b ≡ Equal → Greater ≡ Equal) → cond (is_eq a) x (cond (is_eq b) y rest) ≡ cond (is_eq b) y (cond (is_eq a) x rest)
  apart Equal Equal x y rest never = absurd (let same = never refl refl in cc)
  apart Equal Less x y rest never = refl
  apart Equal Greater x y rest never = refl
  apart Less b x y rest never = refl
  apart Greater b x y rest never = refl

  pub put_sets : (es : List (K × X)) (k : K) (v : X) → Sets cmp k (Some v) es (insert_entry cmp es k v)
  put_sets [] k v q = refl
  put_sets (e ∷ es) k v q =
      elim (cmp k e.0) as (λ r. cmp k e.0 ≡ r → lookup (is_at (cmp q)) (match_ordering r ((k, v) ∷ e ∷ es) ((e.0, v) ∷ es) (e ∷ insert_entry cmp es k v)) ≡ cond (is_eq (cmp q k)) (Some v) (cond (is_eq (cmp q e.0)) (Some e.1) (lookup (is_at (cmp q)) es))) [
        | Less ↦ λ is. refl
        | Equal ↦ λ is. rw (found_alike cmp o q k e.0 is) (twice (is_eq (cmp q k)) (Some v) (Some e.1) (lookup (is_at (cmp q)) es))
        | Greater ↦ λ is. ap (cond (is_eq (cmp q e.0)) (Some e.1)) (put_sets es k v q)
            ∙ apart (cmp q e.0) (cmp q k) (Some e.1) (Some v) (lookup (is_at (cmp q)) es) (λ h i. sym is ∙ both_equal cmp o q k e.0 h i)
      ] refl

  pub delete_sets : (es : List (K × X)) (k : K) → IsStrictlySortedBy cmp (keys_of es) → Sets cmp k None es (remove_entry (is_at (cmp k)) es)
  delete_sets es k h q =
      lookup-remove_entry (eq_by_cmp_equiv o) (is_at (cmp k)) (λ x y is. same x y is) q es (IsDistinct-from_sorted cmp (keys_of es) h)
      ∙ ap (λ b. cond b None (lookup (is_at (cmp q)) es)) (turned cmp o q k)
    where
      same : (x y : K) → is_eq (cmp k x) ≡ true → is_eq (cmp k y) ≡ is_eq (cmp x y)
      same x y is = ap is_eq (o.congr k x y (equal (cmp k x) is))
        where
          equal : (r : Ordering) → is_eq r ≡ true → r ≡ Equal
          equal Less i = absurd (cc i)
          equal Equal i = refl
          equal Greater i = absurd (cc i)

  -- ---- the order is kept

  all_without : (P : K → Type 0) (test : K → Bool) (es : List (K × X)) → AllByRecursion P (keys_of es) → AllByRecursion P (keys_of (remove_entry test es))
  all_without P test [] h = tt
  all_without P test (e ∷ es) h =
      elim (test e.0) as (λ b. AllByRecursion P (keys_of (cond b es (e ∷ remove_entry test es)))) [ true ↦ h.1 | false ↦ (h.0, all_without P test es h.1) ]

  pub delete_keeps : (test : K → Bool) (es : List (K × X)) → IsStrictlySortedBy cmp (keys_of es) → IsStrictlySortedBy cmp (keys_of (remove_entry test es))
  unfolding IsStrictlySortedBy
  delete_keeps test [] h = tt
  delete_keeps test (e ∷ es) h =
      elim (test e.0) as (λ b. IsStrictlySortedBy cmp (keys_of (cond b es (e ∷ remove_entry test es)))) [
        | true ↦ h.1
        | false ↦ (all_without (λ y. cmp e.0 y ≡ Less) test es h.0, delete_keeps test es h.1)
      ]

  all_with : (P : K → Type 0) (es : List (K × X)) (k : K) (v : X) → P k → AllByRecursion P (keys_of es) → AllByRecursion P (keys_of (insert_entry cmp es k v))
  all_with P [] k v p h = (p, tt)
  all_with P (e ∷ es) k v p h =
      elim (cmp k e.0) as (λ r. AllByRecursion P (keys_of (match_ordering r ((k, v) ∷ e ∷ es) ((e.0, v) ∷ es) (e ∷ insert_entry cmp es k v)))) [
        | Less ↦ (p, h)
        | Equal ↦ h
        | Greater ↦ (h.0, all_with P es k v p h.1)
      ]

  pub put_keeps : (es : List (K × X)) (k : K) (v : X) → IsStrictlySortedBy cmp (keys_of es) → IsStrictlySortedBy cmp (keys_of (insert_entry cmp es k v))
  unfolding IsStrictlySortedBy
  put_keeps [] k v h = (tt, tt)
  put_keeps (e ∷ es) k v h =
      elim (cmp k e.0) as (λ r. cmp k e.0 ≡ r → IsStrictlySortedBy cmp (keys_of (match_ordering r ((k, v) ∷ e ∷ es) ((e.0, v) ∷ es) (e ∷ insert_entry cmp es k v)))) [
        | Less ↦ λ is. ((is, below_all cmp o k e.0 is (keys_of es) h.0), h)
        | Equal ↦ λ is. h
        | Greater ↦ λ is. (all_with (λ y. cmp e.0 y ≡ Less) es k v (o.antisymm e.0 k ∙ ap ordering_reverse is) h.0, put_keeps es k v h.1)
      ] refl

pub none_in_order : IsInOrder no_objects
unfolding IsStrictlySortedBy
none_in_order = record { roles = tt; cluster_roles = tt; role_bindings = tt; cluster_role_bindings = tt }

pub put_is_with : (p : PolicyPut) (objects : PolicyObjects) → IsWith p objects (applied (change.Put p) objects)
unfolding applied with_object
put_is_with (put.Role place r) objects = (put_sets place_cmp place_total objects.roles place r, refl)
put_is_with (put.ClusterRole name r) objects = (put_sets name_cmp name_total objects.cluster_roles name r, refl)
put_is_with (put.RoleBinding place b) objects = (put_sets place_cmp place_total objects.role_bindings place b, refl)
put_is_with (put.ClusterRoleBinding name b) objects = (put_sets name_cmp name_total objects.cluster_role_bindings name b, refl)

pub delete_is_without : (k : PolicyKey) (objects : PolicyObjects) → IsInOrder objects → IsWithout k objects (applied (change.Delete k) objects)
unfolding applied without_object
delete_is_without (key.Role place) objects h = (delete_sets place_cmp place_total objects.roles place h.roles, refl)
delete_is_without (key.ClusterRole name) objects h = (delete_sets name_cmp name_total objects.cluster_roles name h.cluster_roles, refl)
delete_is_without (key.RoleBinding place) objects h = (delete_sets place_cmp place_total objects.role_bindings place h.role_bindings, refl)
delete_is_without (key.ClusterRoleBinding name) objects h = (delete_sets name_cmp name_total objects.cluster_role_bindings name h.cluster_role_bindings, refl)

pub change_keeps : (c : PolicyChange) (objects : PolicyObjects) → IsInOrder objects → IsInOrder (applied c objects)
unfolding applied with_object without_object
change_keeps (change.Put (put.Role place r)) objects h = record { roles = put_keeps place_cmp place_total objects.roles place r h.roles; cluster_roles = h.cluster_roles; role_bindings = h.role_bindings; cluster_role_bindings = h.cluster_role_bindings }
change_keeps (change.Put (put.ClusterRole name r)) objects h = record { roles = h.roles; cluster_roles = put_keeps name_cmp name_total objects.cluster_roles name r h.cluster_roles; role_bindings = h.role_bindings; cluster_role_bindings = h.cluster_role_bindings }
change_keeps (change.Put (put.RoleBinding place b)) objects h = record { roles = h.roles; cluster_roles = h.cluster_roles; role_bindings = put_keeps place_cmp place_total objects.role_bindings place b h.role_bindings; cluster_role_bindings = h.cluster_role_bindings }
change_keeps (change.Put (put.ClusterRoleBinding name b)) objects h = record { roles = h.roles; cluster_roles = h.cluster_roles; role_bindings = h.role_bindings; cluster_role_bindings = put_keeps name_cmp name_total objects.cluster_role_bindings name b h.cluster_role_bindings }
change_keeps (change.Delete (key.Role place)) objects h = record { roles = delete_keeps place_cmp place_total (is_at (place_cmp place)) objects.roles h.roles; cluster_roles = h.cluster_roles; role_bindings = h.role_bindings; cluster_role_bindings = h.cluster_role_bindings }
change_keeps (change.Delete (key.ClusterRole name)) objects h = record { roles = h.roles; cluster_roles = delete_keeps name_cmp name_total (is_at (name_cmp name)) objects.cluster_roles h.cluster_roles; role_bindings = h.role_bindings; cluster_role_bindings = h.cluster_role_bindings }
change_keeps (change.Delete (key.RoleBinding place)) objects h = record { roles = h.roles; cluster_roles = h.cluster_roles; role_bindings = delete_keeps place_cmp place_total (is_at (place_cmp place)) objects.role_bindings h.role_bindings; cluster_role_bindings = h.cluster_role_bindings }
change_keeps (change.Delete (key.ClusterRoleBinding name)) objects h = record { roles = h.roles; cluster_roles = h.cluster_roles; role_bindings = h.role_bindings; cluster_role_bindings = delete_keeps name_cmp name_total (is_at (name_cmp name)) objects.cluster_role_bindings h.cluster_role_bindings }
