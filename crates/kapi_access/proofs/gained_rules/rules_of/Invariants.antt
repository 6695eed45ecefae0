use Rattle.std.proofs.Common.{◌≡◌, map, take}
use Rattle.std.specs.List.{flat_map}
use Rattle.kapi_access.specs.Gained.{rules_gained}
use Rattle.kapi_access.specs.Views.{gained_atoms_of, gained_rule_of}
use Rattle.kapi_access.proofs.gained_rules.rules_of.Given as goal

abbrev pub invariant-loop-line : goal.invariant-loop-line
invariant-loop-line l = map gained_rule_of l.list.items ≡ flat_map rules_gained (map gained_atoms_of (take l.line-index l.lines))
