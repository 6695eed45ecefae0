use Rattle.std.proofs.Common.{◌≡◌, [], map}
use Rattle.std.specs.List.{fold}
use Rattle.kapi_access.specs.Gained.{with_gain}
use Rattle.kapi_access.specs.Views.{gain_of, gained_atoms_of}
use Rattle.kapi_access.proofs.gained_rules.atoms_by_rule.Given as goal

abbrev pub invariant-loop-gain : goal.invariant-loop-gain
invariant-loop-gain l = map gained_atoms_of l.lines.items ≡ fold with_gain [] (map gain_of l.yielded)
