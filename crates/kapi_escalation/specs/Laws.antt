-- Writes that the laws speak of.
use Rattle.std.specs.Prelude.{ℕ, List, Option, Some, None}
use Rattle.kapi_model.specs.declared.policy_rule.PolicyRule.{PolicyRule}
use Rattle.kapi_model.specs.declared.aggregation_rule.AggregationRule.{AggregationRule}
use Rattle.kapi_model.specs.declared.role.ClusterRole.{ClusterRole}
use Rattle.kapi_policy.specs.declared.change.NamespacedName.{NamespacedName}
use Rattle.kapi_policy.specs.declared.change.PolicyPut.{PolicyPut}
use Rattle.kapi_policy.specs.declared.change.PolicyPut.TheVariants as put
use Rattle.kapi_escalation.specs.declared.write.PolicyWrite.{PolicyWrite}
use Rattle.kapi_escalation.specs.declared.write.WrittenObject.{WrittenObject}
use Rattle.kapi_escalation.specs.declared.write.WrittenObject.TheVariants as written

-- the write leaves its object as it was stored
abbrev pub unchanged : PolicyPut → WrittenObject
unchanged (put.Role place role) = written.Role place role
unchanged (put.ClusterRole name role) = written.ClusterRole name (record { old = Some role; new = role })
unchanged (put.RoleBinding place binding) = written.RoleBinding place (record { old = Some binding; new = binding })
unchanged (put.ClusterRoleBinding name binding) = written.ClusterRoleBinding name (record { old = Some binding; new = binding })

-- the write creates its object
abbrev pub created : PolicyPut → WrittenObject
created (put.Role place role) = written.Role place role
created (put.ClusterRole name role) = written.ClusterRole name (record { old = None; new = role })
created (put.RoleBinding place binding) = written.RoleBinding place (record { old = None; new = binding })
created (put.ClusterRoleBinding name binding) = written.ClusterRoleBinding name (record { old = None; new = binding })

-- a request that asks for that name writes the object
abbrev pub write_of : List ℕ → WrittenObject → PolicyWrite
write_of request_name object = record { request_name = request_name; object = object }

-- a role is written with those rules
abbrev pub role_with : NamespacedName → List PolicyRule → WrittenObject
role_with place rules = written.Role place (record { rules = rules })

-- a cluster role is written with those rules
abbrev pub cluster_role_with : List ℕ → Option ClusterRole → Option AggregationRule → List PolicyRule → WrittenObject
cluster_role_with name old aggregated rules =
    written.ClusterRole name (record { old = old; new = record { aggregation_rule = aggregated; rules = rules } })
