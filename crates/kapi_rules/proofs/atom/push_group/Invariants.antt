use Rattle.std.proofs.Common.{◌≡◌, ◌++◌, take}
use Rattle.std.specs.List.{flat_map}
use Rattle.kapi_rules.specs.Atoms.{resource_atoms}
use Rattle.kapi_rules.proofs.atom.push_group.Given as goal

abbrev pub invariant-loop-resource : goal.invariant-loop-resource
invariant-loop-resource l = l.list.items ≡ l.initial.list.items ++ flat_map (resource_atoms l.rule l.group) (take l.resource-index l.resource-items)
