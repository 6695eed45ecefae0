-- The state of a policy: its objects, and the labels by which cluster roles are aggregated (Kubernetes, 'Using RBAC
-- Authorization', 'Aggregated ClusterRoles').
use Rattle.std.specs.Prelude.{ℕ, List, map, Option}
use Rattle.std.specs.Map.{lookup}
use Rattle.std.specs.Str.{bytes_eq}
use Rattle.serde_json.specs.Data.{Data}
use Rattle.kapi_model.specs.declared.role.ClusterRole.{ClusterRole}
use Rattle.kapi_aggregation.specs.Roles.{Labelled}
use Rattle.kapi_aggregation.specs.Turns.{turn_of}
use Rattle.kapi_aggregation.specs.Unions.{IsSettled as AreUnions}
use Rattle.kapi_policy.specs.Objects.{PolicyObjects}

-- the labels of the cluster role of a name, if it has some
abbrev pub Labels : Type 0
Labels = List ℕ → Option Data

-- the policy objects, and the labels of the cluster roles among them
pub record PolicyState : Type 0 where
  pub objects : PolicyObjects
  pub labels : Labels

-- the cluster role of a name, if there is one
abbrev pub cluster_role_at : PolicyObjects → List ℕ → Option ClusterRole
cluster_role_at objects name = lookup (bytes_eq name) objects.cluster_roles

-- a cluster role with its name and its labels
abbrev pub labelled : Labels → List ℕ × ClusterRole → Labelled
labelled labels entry = record { name = entry.0; labels = labels entry.0; role = entry.1 }

-- the cluster roles with their labels, in the order of their names
abbrev pub labelled_roles : PolicyObjects → Labels → List Labelled
labelled_roles objects labels = map (labelled labels) objects.cluster_roles

-- the rules of every aggregated cluster role are its union
abbrev pub IsSettled : PolicyState → Type 0
IsSettled state = AreUnions (labelled_roles state.objects state.labels)

-- a cluster role with its union in place of its rules
abbrev pub turned : PolicyObjects → Labels → List ℕ → ClusterRole → ClusterRole
turned objects labels name r = record r { rules = (turn_of (labelled_roles objects labels) (labelled labels (name, r))).rules }
