use Rattle.std.proofs.Common.{◌≡◌, ◌++◌, drop, map}
use Rattle.std.specs.List.{flat_map}
use Rattle.kapi_policy.specs.Views.{binding_of}
use Rattle.kapi_access.specs.Grantees.{role_of}
use Rattle.kapi_suggest.specs.Idle.{unused_of, unused_rules}
use Rattle.kapi_suggest.proofs.idle.unused_rules.Given as goal

abbrev pub invariant-loop-binding : goal.invariant-loop-binding
invariant-loop-binding g l =
    map unused_of l.list.items ++ flat_map (λ b. unused_rules l.uses b (0, role_of (g.P.Policy.content l.policy) b)) (map binding_of (drop l.binding-index l.bindings))
    ≡ flat_map (λ b. unused_rules l.uses b (0, role_of (g.P.Policy.content l.policy) b)) (map binding_of l.bindings)
