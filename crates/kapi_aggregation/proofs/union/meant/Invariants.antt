use Rattle.std.proofs.Common.{◌≡◌, map, take}
use Rattle.std.specs.List.{flat_map}
use Rattle.kapi_aggregation.specs.Unions.{rules_meant}
use Rattle.kapi_aggregation.specs.Views.{labelled}
use Rattle.kapi_aggregation.proofs.union.meant.Given as goal

abbrev pub invariant-loop-selector : goal.invariant-loop-selector
invariant-loop-selector l = l.rules.items ≡ flat_map (rules_meant (map labelled l.roles) l.role.name.now) (take l.selector-index l.selector-items)
