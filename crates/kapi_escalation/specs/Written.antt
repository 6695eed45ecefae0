-- What a write of a role or binding replaces, and what it stores (Kubernetes, 'Using RBAC Authorization', 'Privilege
-- escalation prevention and bootstrapping').
use Rattle.std.specs.Prelude.{Option}
use Rattle.std.specs.Option.{option_map}
use Rattle.serde_json.specs.Data.{Data}
use Rattle.kapi_rbac_types.specs.Trees.{role_of, cluster_role_of, role_binding_of, cluster_role_binding_of}
use Rattle.kapi_store.specs.declared.key.Key.{Key}
use Rattle.kapi_escalation.specs.Kind.{place_of}
use Rattle.kapi_escalation.specs.declared.kind.PolicyKind.{PolicyKind}
use Rattle.kapi_escalation.specs.declared.kind.PolicyKind.TheVariants as kind
use Rattle.kapi_escalation.specs.declared.write.Versions.{Versions}
use Rattle.kapi_escalation.specs.declared.write.WrittenObject.{WrittenObject}
use Rattle.kapi_escalation.specs.declared.write.WrittenObject.TheVariants as written

-- the old version, if there is one, and the new version, each as its tree is read
abbrev pub versions_of : {X : Type 0} → (Data → X) → Option Data → Data → Versions X
versions_of read old new = record { old = option_map read old; new = read new }

-- a role or binding written at a key: the new version, and the old one, if there is one and it counts
abbrev pub written_at : PolicyKind → Key → Option Data → Data → WrittenObject
written_at kind.Role k old new = written.Role (place_of k) (role_of new)
written_at kind.RoleBinding k old new = written.RoleBinding (place_of k) (versions_of role_binding_of old new)
written_at kind.ClusterRole k old new = written.ClusterRole k.name (versions_of cluster_role_of old new)
written_at kind.ClusterRoleBinding k old new = written.ClusterRoleBinding k.name (versions_of cluster_role_binding_of old new)
