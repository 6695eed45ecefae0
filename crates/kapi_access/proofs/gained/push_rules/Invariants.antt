use Rattle.std.proofs.Common.{◌≡◌, ◌++◌, drop, map}
use Rattle.std.specs.List.{enumerate_from, flat_map}
use Rattle.kapi_policy.specs.Views.{binding_of}
use Rattle.kapi_access.specs.Gained.{lines_by}
use Rattle.kapi_access.specs.Views.{gain_of}
use Rattle.kapi_access.proofs.gained.push_rules.Given as goal

abbrev pub invariant-loop-index : goal.invariant-loop-index
invariant-loop-index l =
    map gain_of l.list.items ++ flat_map (lines_by l.own l.to (binding_of l.binding)) (enumerate_from l.index (drop l.index l.rules))
    ≡ map gain_of l.initial.list.items ++ flat_map (lines_by l.own l.to (binding_of l.binding)) (enumerate_from 0 l.rules)
