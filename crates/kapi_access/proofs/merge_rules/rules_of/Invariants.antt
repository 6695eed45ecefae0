use Rattle.std.proofs.Common.{◌≡◌, map, take}
use Rattle.kapi_rules.specs.Atoms.{rule_of}
use Rattle.kapi_access.proofs.merge_rules.rules_of.Given as goal

abbrev pub invariant-loop-atom : goal.invariant-loop-atom
invariant-loop-atom l = l.rules.items ≡ map rule_of (take l.atom-index l.atoms)
