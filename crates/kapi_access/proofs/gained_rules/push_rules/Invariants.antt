use Rattle.std.proofs.Common.{◌≡◌, ◌++◌, map}
use Rattle.kapi_policy.specs.Views.{binding_of}
use Rattle.kapi_access.specs.Views.{gained_rule_of}
use Rattle.kapi_access.proofs.gained_rules.push_rules.Given as goal

abbrev pub invariant-loop-rule : goal.invariant-loop-rule
invariant-loop-rule l =
    map gained_rule_of l.list.items
    ≡ map gained_rule_of l.initial.list.items ++ map (λ r. record { to = l.line.to; binding = binding_of l.line.binding; rule = l.line.rule; gain = r }) l.yielded
