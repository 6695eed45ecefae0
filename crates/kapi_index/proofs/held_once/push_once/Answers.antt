use Rattle.std.proofs.Common.{[]}
use Rattle.std.specs.Option.{unwrap_or}
use Rattle.kapi_model.specs.declared.kinds.RoleKind.TheVariants.{ClusterRole, Role}
use Rattle.kapi_policy.specs.Decided.{rules_of}
use Rattle.kapi_index.proofs.Once.{listed_in_more, of_kind}
use Rattle.kapi_index.proofs.held_once.push_once.Goals as goal

pub returns-in_ok-push_new-in-Role-clause-taken : goal.returns-in_ok-push_new-in-Role-clause-taken
returns-in_ok-push_new-in-Role-clause-taken c = (
  of_kind c.args.policy.now c.args.namespace.now c.args.role.now.kind Role c.push_new.new.names c.push_new.new.list.items c.in-Role.is
      c.in_ok-push_new-in-Role.ensures.listed,
  listed_in_more c.args.policy.now c.args.namespace.now ClusterRole c.args.taken.now.cluster_roles c.args.list.now.items
      (unwrap_or (rules_of c.args.policy.now c.args.role.now c.args.namespace.now) []) c.push_new.new.list.items c.in_ok-push_new-in-Role.ensures.same c.requires.1,
)

pub returns-in_ok-push_new-in-ClusterRole-clause-taken : goal.returns-in_ok-push_new-in-ClusterRole-clause-taken
returns-in_ok-push_new-in-ClusterRole-clause-taken c = (
  listed_in_more c.args.policy.now c.args.namespace.now Role c.args.taken.now.roles c.args.list.now.items
      (unwrap_or (rules_of c.args.policy.now c.args.role.now c.args.namespace.now) []) c.push_new-in-ClusterRole.new.list.items
      c.in_ok-push_new-in-ClusterRole.ensures.same c.requires.0,
  of_kind c.args.policy.now c.args.namespace.now c.args.role.now.kind ClusterRole c.push_new-in-ClusterRole.new.names c.push_new-in-ClusterRole.new.list.items
      c.in-ClusterRole.is c.in_ok-push_new-in-ClusterRole.ensures.listed,
)
