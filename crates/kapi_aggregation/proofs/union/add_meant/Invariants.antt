use Rattle.std.proofs.Common.{◌≡◌, ◌++◌, map, take}
use Rattle.kapi_aggregation.specs.Unions.{rules_meant}
use Rattle.kapi_aggregation.specs.Views.{labelled}
use Rattle.kapi_aggregation.proofs.union.add_meant.Given as goal

abbrev pub invariant-loop-role : goal.invariant-loop-role
invariant-loop-role l = l.rules.items ≡ l.initial.rules.items ++ rules_meant (map labelled (take l.role-index l.roles)) l.name l.selector
