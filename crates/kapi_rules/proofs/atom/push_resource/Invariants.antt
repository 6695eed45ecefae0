use Rattle.std.proofs.Common.{◌≡◌, ◌++◌, take}
use Rattle.std.specs.List.{flat_map}
use Rattle.kapi_rules.specs.Atoms.{verb_atoms}
use Rattle.kapi_rules.proofs.atom.push_resource.Given as goal

abbrev pub invariant-loop-verb : goal.invariant-loop-verb
invariant-loop-verb l = l.list.items ≡ l.initial.list.items ++ flat_map (verb_atoms l.rule l.group l.resource) (take l.verb-index l.verb-items)
