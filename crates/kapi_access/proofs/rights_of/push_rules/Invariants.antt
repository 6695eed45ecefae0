use Rattle.std.proofs.Common.{◌≡◌, ◌++◌, drop}
use Rattle.std.specs.List.{enumerate_from, flat_map}
use Rattle.kapi_policy.specs.Views.{binding_of}
use Rattle.kapi_access.specs.Given.{all_given, given_at}
use Rattle.kapi_access.proofs.rights_of.push_rules.Given as goal

abbrev pub invariant-loop-index : goal.invariant-loop-index
invariant-loop-index l =
    l.list.items ++ flat_map (given_at (binding_of l.binding)) (enumerate_from l.index (drop l.index l.rules))
    ≡ l.initial.list.items ++ all_given (binding_of l.binding) l.rules
