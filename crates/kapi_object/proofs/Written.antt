-- What is written of roles and bindings has no float, its keys are in order, and it is shallow.
use Rattle.std.proofs.Common.{◌≡◌, ◌<◌, arith, true, false, List, Option}
use Rattle.serde_json.specs.Data.{members_depth}
use Rattle.serde_json.specs.Read.{max_depth}
use Rattle.serde_json.specs.Written.{members_have_float}
use Rattle.kapi_model.specs.declared.aggregation_rule.AggregationRule.{AggregationRule}
use Rattle.kapi_model.specs.declared.policy_rule.PolicyRule.{PolicyRule}
use Rattle.kapi_model.specs.declared.role_ref.RoleRef.{RoleRef}
use Rattle.kapi_model.specs.declared.subject.Subject.{Subject}
use Rattle.kapi_object.proofs.Closed.{role_content_holds, cluster_role_content_holds, binding_content_holds}
use Rattle.kapi_object.proofs.Depths.{no_deeper}
use Rattle.kapi_object.proofs.NoFloats.{no_floats}
use Rattle.kapi_object.proofs.Ordered.{keys_in_order}
use Rattle.kapi_object.specs.Contents.{role_content, cluster_role_content, binding_content}
use Rattle.kapi_object.specs.Order.{in_order}

pub role_has_no_float : (rules : List PolicyRule) → members_have_float (role_content rules) ≡ false
role_has_no_float rules = role_content_holds no_floats 0 rules

pub role_in_order : (rules : List PolicyRule) → in_order (role_content rules) ≡ true
role_in_order rules = role_content_holds keys_in_order 0 rules

pub cluster_role_has_no_float : (o : Option AggregationRule) (rules : List PolicyRule) → members_have_float (cluster_role_content o rules) ≡ false
cluster_role_has_no_float o rules = cluster_role_content_holds no_floats 0 o rules

pub cluster_role_in_order : (o : Option AggregationRule) (rules : List PolicyRule) → in_order (cluster_role_content o rules) ≡ true
cluster_role_in_order o rules = cluster_role_content_holds keys_in_order 0 o rules

pub binding_has_no_float : (subjects : List Subject) (r : RoleRef) → members_have_float (binding_content subjects r) ≡ false
binding_has_no_float subjects r = binding_content_holds no_floats 0 subjects r

pub binding_in_order : (subjects : List Subject) (r : RoleRef) → in_order (binding_content subjects r) ≡ true
binding_in_order subjects r = binding_content_holds keys_in_order 0 subjects r

pub role_is_shallow : (rules : List PolicyRule) → members_depth (role_content rules) < max_depth
role_is_shallow rules = omega (arith, role_content_holds no_deeper 0 rules)

pub cluster_role_is_shallow : (o : Option AggregationRule) (rules : List PolicyRule) → members_depth (cluster_role_content o rules) < max_depth
cluster_role_is_shallow o rules = omega (arith, cluster_role_content_holds no_deeper 0 o rules)

pub binding_is_shallow : (subjects : List Subject) (r : RoleRef) → members_depth (binding_content subjects r) < max_depth
binding_is_shallow subjects r = omega (arith, binding_content_holds no_deeper 0 subjects r)
