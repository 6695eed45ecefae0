-- The cluster roles of a list of cluster roles are those of the store, and they are in the order of their names.
use Rattle.std.proofs.Common.{◌≡◌, ℕ, List, [], ◌∷◌, Bool, true, false, cond, not, ◌&&◌, ◌==◌, length, refl, sym, ap, ◌∙◌, subst, map, codes, Result, Ok, Err, IfOk}
use Rattle.std.proofs.Math.Dec.{eqb-suc-zero}
use Rattle.std.proofs.lemmas.Map.Text.{is_eq-slice_cmp}
use Rattle.std.specs.Cmp.Lexicographic.{slice_cmp}
use Rattle.std.specs.List.{AllByRecursion, filter, flat_map, list_all}
use Rattle.std.specs.List.Sorted.{IsStrictlySortedBy}
use Rattle.std.specs.Map.{keys_of}
use Rattle.std.specs.Ordering.{is_eq, nat_cmp, ordering_then}
use Rattle.std.specs.Str.{bytes_eq}
use Rattle.std.specs.declared.cmp.Ordering.{Ordering}
use Rattle.std.specs.declared.cmp.Ordering.TheVariants.{Less, Equal, Greater}
use Rattle.std.proofs.lemmas.Bool.{and_parts, and_from, and_right}
use Rattle.serde_json.specs.Data.{Data}
use Rattle.kapi_model.specs.Kinds.{rbac_group}
use Rattle.kapi_model.specs.Selector.{has_label, is_met, matches}
use Rattle.kapi_model.specs.declared.row.ResourceRow.{ResourceRow}
use Rattle.kapi_model.specs.declared.selector.Selector.{Selector}
use Rattle.kapi_store.specs.declared.stored.StoredObject.{StoredObject}
use Rattle.kapi_store.specs.Keys.{key_cmp}
use Rattle.kapi_store.specs.Listing.{is_listed, is_within, listed_trees}
use Rattle.kapi_store.specs.Plain.{plain_of, trees}
use Rattle.kapi_store.specs.State.{IsStore, State, objects}
use Rattle.kapi_store.specs.declared.key.Key.{Key}
use Rattle.kapi_aggregation.specs.Roles.{IsInNameOrder, Labelled, is_cluster_role, labelled_tree, labels_in, names_of, roles_in}
use Rattle.kapi_aggregation.specs.Unions.{is_meant, rules_meant}
use Rattle.kapi_aggregation.proofs.Lists.{filter_alike, filter_mapped, filter_twice, itself, same_text}

and_true : (a : Bool) → (a && true) ≡ a
and_true true = refl
and_true false = refl

-- ---- what is listed

module _ (row : ResourceRow) (selector : Selector) (group : row.group ≡ rbac_group) (plural : row.plural ≡ codes "clusterroles")
    (labels : selector.match_labels ≡ []) (expressions : selector.match_expressions ≡ []) where
  within : (k : Key) → is_cluster_role k ≡ true → is_within row [] [] k ≡ true
  unfolding is_cluster_role
  within k is =
      let parts = and_parts (bytes_eq k.group rbac_group) _ is in
      let others = and_parts (bytes_eq k.resource (codes "clusterroles")) _ parts.1 in
      let first : row.group ≡ k.group = group ∙ sym (same_text k.group rbac_group parts.0) in
      let second : row.plural ≡ k.resource = plural ∙ sym (same_text k.resource (codes "clusterroles") others.0) in
      and_from (bytes_eq row.group k.group) _ (rw first (itself k.group))
      (and_from (bytes_eq row.plural k.resource) true (rw second (itself k.resource)) refl)

  meant : (tree : Data) → matches selector (labels_in tree) ≡ true
  meant tree = and_from (list_all (has_label (labels_in tree)) selector.match_labels) _ (ap (list_all (has_label (labels_in tree))) labels) (ap (list_all (is_met (labels_in tree))) expressions)

  listed_too : (e : Key × Data) → (is_listed row [] selector [] e.0 e.1 && is_cluster_role e.0) ≡ is_cluster_role e.0
  unfolding is_listed
  listed_too e = by_case (is_cluster_role e.0) refl
    where
      by_case : (b : Bool) → is_cluster_role e.0 ≡ b → ((is_within row [] [] e.0 && matches selector (labels_in e.1)) && b) ≡ b
      by_case true is = and_from _ true (and_from (is_within row [] [] e.0) (matches selector (labels_in e.1)) (within e.0 is) (meant e.1)) refl
      by_case false is = and_right _ false refl

  listed_roles : (os : List (Key × Data)) → roles_in (listed_trees row [] selector [] os) ≡ roles_in os
  listed_roles os =
      ap (map labelled_tree) (filter_twice (λ (e : Key × Data). is_cluster_role e.0) (λ e. is_listed row [] selector [] e.0 e.1) os
      ∙ filter_alike (λ (e : Key × Data). is_listed row [] selector [] e.0 e.1 && is_cluster_role e.0) (λ e. is_cluster_role e.0) listed_too os)

-- the roles among what is listed are those of the store
pub read_roles : (row : ResourceRow) (selector : Selector) (os listed : List (Key × Data)) (roles : List Labelled)
    → row.group ≡ rbac_group → row.plural ≡ codes "clusterroles" → selector.match_labels ≡ [] → selector.match_expressions ≡ []
    → roles ≡ roles_in listed → listed ≡ listed_trees row [] selector [] os → roles ≡ roles_in os
read_roles row selector os listed roles group plural labels expressions made are =
    made ∙ ap roles_in are ∙ listed_roles row selector group plural labels expressions os

-- ---- what a selector matches

module _ (row : ResourceRow) (selector : Selector) (group : row.group ≡ rbac_group) (plural : row.plural ≡ codes "clusterroles") where
  place_within : (k : Key) → is_cluster_role k ≡ true → is_within row [] [] k ≡ true
  unfolding is_cluster_role
  place_within k is =
      let parts = and_parts (bytes_eq k.group rbac_group) _ is in
      let others = and_parts (bytes_eq k.resource (codes "clusterroles")) _ parts.1 in
      let first : row.group ≡ k.group = group ∙ sym (same_text k.group rbac_group parts.0) in
      let second : row.plural ≡ k.resource = plural ∙ sym (same_text k.resource (codes "clusterroles") others.0) in
      and_from (bytes_eq row.group k.group) _ (rw first (itself k.group))
      (and_from (bytes_eq row.plural k.resource) true (rw second (itself k.resource)) refl)

  selected_too : (e : Key × Data) → (is_listed row [] selector [] e.0 e.1 && is_cluster_role e.0) ≡ (is_cluster_role e.0 && matches selector (labels_in e.1))
  unfolding is_listed
  selected_too e = by_case (is_cluster_role e.0) refl
    where
      by_case : (b : Bool) → is_cluster_role e.0 ≡ b → ((is_within row [] [] e.0 && matches selector (labels_in e.1)) && b) ≡ (b && matches selector (labels_in e.1))
      by_case true is = rw (place_within e.0 is) (and_true (matches selector (labels_in e.1)))
      by_case false is = and_right _ false refl

  pub selected_listed : (os : List (Key × Data)) → roles_in (listed_trees row [] selector [] os) ≡ filter (λ r. matches selector r.labels) (roles_in os)
  selected_listed os =
      ap (map labelled_tree) (filter_twice (λ (e : Key × Data). is_cluster_role e.0) (λ e. is_listed row [] selector [] e.0 e.1) os
      ∙ filter_alike (λ (e : Key × Data). is_listed row [] selector [] e.0 e.1 && is_cluster_role e.0) (λ e. is_cluster_role e.0 && matches selector (labels_in e.1)) selected_too os
      ∙ sym (filter_twice (λ (e : Key × Data). matches selector (labels_in e.1)) (λ e. is_cluster_role e.0) os))
      ∙ sym (filter_mapped labelled_tree (λ (r : Labelled). matches selector r.labels) (filter (λ e. is_cluster_role e.0) os))

pub if_ok : {X E : Type 0} (r : Result X E) (P Q : X → Type 0) → ((x : X) → P x → Q x) → IfOk r P → IfOk r Q
if_ok (Ok x) P Q more h = more x h
if_ok (Err e) P Q more h = tt

-- the roles among what a selector lists are those of the store that it matches
pub selected_roles : (row : ResourceRow) (selector : Selector) (os listed : List (Key × Data)) (roles : List Labelled)
    → row.group ≡ rbac_group → row.plural ≡ codes "clusterroles" → roles ≡ roles_in listed → listed ≡ listed_trees row [] selector [] os → roles ≡ filter (λ r. matches selector r.labels) (roles_in os)
selected_roles row selector os listed roles group plural made are = made ∙ ap roles_in are ∙ selected_listed row selector group plural os

-- what a selector takes from those that it matches is what it takes from all
pub selected_meant : (selector : Selector) (name : List ℕ) (roles selected : List Labelled) → selected ≡ filter (λ r. matches selector r.labels) roles
    → rules_meant selected name selector ≡ rules_meant roles name selector
selected_meant selector name roles selected are =
    ap (λ (rs : List Labelled). rules_meant rs name selector) are
    ∙ ap (flat_map (λ (r : Labelled). r.role.rules)) (filter_twice (is_meant name selector) (λ r. matches selector r.labels) roles
    ∙ filter_alike (λ (r : Labelled). matches selector r.labels && is_meant name selector r) (is_meant name selector) (λ r. twice (not (bytes_eq r.name name)) (matches selector r.labels)) roles)
  where
    twice : (a b : Bool) → (b && (a && b)) ≡ (a && b)
    twice a true = refl
    twice a false = sym (and_right a false refl)

-- ---- the order of names

then_after : (o p q : Ordering) → o ≡ Equal → ordering_then o p ≡ q → p ≡ q
then_after Less p q is h = absurd (cc is)
then_after Equal p q is h = h
then_after Greater p q is h = absurd (cc is)

is_equal : (o : Ordering) → is_eq o ≡ true → o ≡ Equal
is_equal Less h = absurd (cc h)
is_equal Equal h = refl
is_equal Greater h = absurd (cc h)

compares : (a b : List ℕ) → a ≡ b → slice_cmp nat_cmp a b ≡ Equal
compares a b same = is_equal (slice_cmp nat_cmp a b) (is_eq-slice_cmp a b ∙ ap (λ (s : List ℕ). bytes_eq s b) same ∙ itself b)

pub empty_is : (xs : List ℕ) → (length xs == 0) ≡ true → xs ≡ []
empty_is [] h = refl
empty_is (x ∷ xs) h =
    let P : Bool → Type 0 = λ b. b ≡ true in
    absurd (cc (subst P (eqb-suc-zero (length xs)) h))

-- of two keys of cluster roles in order the names are in order
name_less : (a b : Key) → is_cluster_role a ≡ true → is_cluster_role b ≡ true → key_cmp a b ≡ Less → slice_cmp nat_cmp a.name b.name ≡ Less
unfolding is_cluster_role
name_less a b one other less =
    let first = and_parts (bytes_eq a.group rbac_group) _ one in
    let second = and_parts (bytes_eq b.group rbac_group) _ other in
    let third = and_parts (bytes_eq a.resource (codes "clusterroles")) _ first.1 in
    let fourth = and_parts (bytes_eq b.resource (codes "clusterroles")) _ second.1 in
    let groups = same_text a.group rbac_group first.0 ∙ sym (same_text b.group rbac_group second.0) in
    let resources = same_text a.resource (codes "clusterroles") third.0 ∙ sym (same_text b.resource (codes "clusterroles") fourth.0) in
    let namespaces = empty_is a.namespace third.1 ∙ sym (empty_is b.namespace fourth.1) in
    then_after (slice_cmp nat_cmp a.namespace b.namespace) _ Less (compares a.namespace b.namespace namespaces)
    (then_after (slice_cmp nat_cmp a.resource b.resource) _ Less (compares a.resource b.resource resources)
    (then_after (slice_cmp nat_cmp a.group b.group) _ Less (compares a.group b.group groups) less))

all_names : (k : Key) → is_cluster_role k ≡ true → (es : List (Key × Data)) → AllByRecursion (λ l. key_cmp k l ≡ Less) (keys_of es)
    → AllByRecursion (λ n. slice_cmp nat_cmp k.name n ≡ Less) (names_of (roles_in es))
all_names k is [] h = tt
all_names k is (e ∷ es) h = by_case (is_cluster_role e.0) refl (all_names k is es h.1)
  where
    by_case : (b : Bool) → is_cluster_role e.0 ≡ b → AllByRecursion (λ n. slice_cmp nat_cmp k.name n ≡ Less) (names_of (roles_in es))
        → AllByRecursion (λ n. slice_cmp nat_cmp k.name n ≡ Less) (names_of (map labelled_tree (cond b (e ∷ filter (λ e. is_cluster_role e.0) es) (filter (λ e. is_cluster_role e.0) es))))
    by_case true cluster rest = (name_less k e.0 is cluster h.0, rest)
    by_case false cluster rest = rest

roles_ordered : (es : List (Key × Data)) → IsStrictlySortedBy key_cmp (keys_of es) → IsInNameOrder (roles_in es)
unfolding IsStrictlySortedBy
roles_ordered [] h = tt
roles_ordered (e ∷ es) h = by_case (is_cluster_role e.0) refl (roles_ordered es h.1)
  where
    by_case : (b : Bool) → is_cluster_role e.0 ≡ b → IsStrictlySortedBy (slice_cmp nat_cmp) (names_of (roles_in es))
        → IsStrictlySortedBy (slice_cmp nat_cmp) (names_of (map labelled_tree (cond b (e ∷ filter (λ e. is_cluster_role e.0) es) (filter (λ e. is_cluster_role e.0) es))))
    by_case true is rest = (all_names e.0 is es h.0, rest)
    by_case false is rest = rest

pub keys_of_trees : (os : List (Key × StoredObject)) → keys_of (trees os) ≡ keys_of os
keys_of_trees [] = refl
keys_of_trees (o ∷ os) = ap (λ (ks : List Key). o.0 ∷ ks) (keys_of_trees os)

-- the roles of a store are in the order of their names
pub read_order : (s : State) (roles : List Labelled) → IsStore s → roles ≡ roles_in (plain_of s).objects → IsInNameOrder roles
read_order s roles is are = rw (are) (roles_ordered (trees (objects s)) (rw (keys_of_trees (objects s)) is.ordered))
