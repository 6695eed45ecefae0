use Rattle.std.proofs.Common.{◌≡◌, ◌++◌, drop, map}
use Rattle.kapi_policy.specs.Views.{binding_of}
use Rattle.kapi_suggest.specs.Idle.{unused_of, unused_rules}
use Rattle.kapi_suggest.proofs.idle.push_rules.Given as goal

abbrev pub invariant-loop-index : goal.invariant-loop-index
invariant-loop-index l =
    map unused_of l.list.items ++ unused_rules l.uses (binding_of l.binding) (l.index, drop l.index l.rules)
    ≡ map unused_of l.initial.list.items ++ unused_rules l.uses (binding_of l.binding) (0, l.rules)
