-- The cluster roles among the objects of a store.
use Rattle.std.specs.Prelude.{ℕ, List, [], length, map, Bool, ◌&&◌, ◌==◌, Option, Some, None, is_some, codes}
use Rattle.std.specs.Cmp.Lexicographic.{slice_cmp}
use Rattle.std.specs.Ordering.{nat_cmp}
use Rattle.std.specs.List.{filter, find, list_any}
use Rattle.std.specs.List.Sorted.{IsStrictlySortedBy}
use Rattle.std.specs.Str.{bytes_eq}
use Rattle.serde_json.specs.Data.{Data}
use Rattle.kapi_model.specs.Kinds.{rbac_group}
use Rattle.kapi_model.specs.Selector.{matches}
use Rattle.kapi_model.specs.declared.aggregation_rule.AggregationRule.{AggregationRule}
use Rattle.kapi_model.specs.declared.selector.Selector.{Selector}
use Rattle.kapi_object.specs.Tree.{in_metadata}
use Rattle.kapi_rbac_types.specs.Trees.{cluster_role_of}
use Rattle.kapi_model.specs.declared.role.ClusterRole.{ClusterRole}
use Rattle.kapi_store.specs.declared.key.Key.{Key}

-- a cluster role with its name and its labels, if it has some
pub record Labelled : Type 0 where
  pub name : List ℕ
  pub labels : Option Data
  pub role : ClusterRole

-- the key is of a cluster role, which is in no namespace
unfoldable pub is_cluster_role : Key → Bool
is_cluster_role k = bytes_eq k.group rbac_group && (bytes_eq k.resource (codes "clusterroles") && length k.namespace == 0)

-- the labels of an object
abbrev pub labels_in : Data → Option Data
labels_in tree = in_metadata (codes "labels") tree

-- the cluster role of a name that an object is
abbrev pub labelled_at : List ℕ → Data → Labelled
labelled_at name tree = record { name = name; labels = labels_in tree; role = cluster_role_of tree }

-- the cluster role that the object at a key is
abbrev pub labelled_tree : Key × Data → Labelled
labelled_tree e = labelled_at e.0.name e.1

-- the cluster roles among some objects, in the order of their keys
abbrev pub roles_in : List (Key × Data) → List Labelled
roles_in os = map labelled_tree (filter (λ e. is_cluster_role e.0) os)

-- the names of some cluster roles
abbrev pub names_of : List Labelled → List (List ℕ)
names_of roles = map (λ r. r.name) roles

-- names are in order by their bytes, each once
abbrev pub IsInNameOrder : List Labelled → Type 0
IsInNameOrder roles = IsStrictlySortedBy (slice_cmp nat_cmp) (names_of roles)

-- the cluster role of a name, if there is one
abbrev pub role_named : List Labelled → List ℕ → Option Labelled
role_named roles name = find (λ r. bytes_eq r.name name) roles

-- the selectors of an aggregation rule, if there is one
abbrev pub selectors_in : Option AggregationRule → List Selector
selectors_in None = []
selectors_in (Some rule) = rule.cluster_role_selectors

-- the selectors of a cluster role
abbrev pub selectors_of : Labelled → List Selector
selectors_of r = selectors_in r.role.aggregation_rule

-- the cluster role takes its rules from others (Kubernetes, 'Using RBAC Authorization', 'Aggregated ClusterRoles')
abbrev pub is_aggregated : Labelled → Bool
is_aggregated r = is_some r.role.aggregation_rule

-- the cluster role takes rules from one with these labels
abbrev pub takes_from : Labelled → Option Data → Bool
takes_from r labels = list_any (λ s. matches s labels) (selectors_of r)
