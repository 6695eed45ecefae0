use Rattle.std.proofs.Common.{◌≡◌, ◌++◌, take}
use Rattle.std.specs.List.{flat_map}
use Rattle.kapi_rules.specs.Atoms.{group_atoms}
use Rattle.kapi_rules.proofs.atom.push_resource_part.Given as goal

abbrev pub invariant-loop-group : goal.invariant-loop-group
invariant-loop-group l = l.list.items ≡ l.initial.list.items ++ flat_map (group_atoms l.rule) (take l.group-index l.group-items)
