-- The policy state that the stored objects are (Kubernetes API, rbac.authorization.k8s.io/v1).
use Rattle.std.specs.Prelude.{List, option_and_then}
use Rattle.std.specs.List.Sorted.{IsStrictlySortedBy}
use Rattle.std.specs.Map.{keys_of, lookup}
use Rattle.serde_json.specs.Data.{Data}
use Rattle.kapi_store.specs.Keys.{is_key, key_cmp}
use Rattle.kapi_store.specs.declared.key.Key.{Key}
use Rattle.kapi_escalation.specs.Reading.{policy_objects}
use Rattle.kapi_aggregation.specs.Rewriting.{role_key}
use Rattle.kapi_aggregation.specs.Roles.{labels_in}
use Rattle.kapi_escalation_laws.specs.States.{Labels, PolicyState}

-- the objects are in the order of their keys, each key once
abbrev pub AreInOrder : List (Key × Data) → Type 0
AreInOrder os = IsStrictlySortedBy key_cmp (keys_of os)

-- the labels of the cluster role of a name, if it is there and has some
abbrev pub labels_at : List (Key × Data) → Labels
labels_at os name = option_and_then labels_in (lookup (is_key (role_key name)) os)

-- the roles and bindings among the objects, and the labels of the cluster roles among them
abbrev pub policy_state : List (Key × Data) → PolicyState
policy_state os = record { objects = policy_objects os; labels = labels_at os }
