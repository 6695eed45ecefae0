use Rattle.std.proofs.Common.{◌≡◌, ◌++◌, take, map}
use Rattle.std.specs.List.{flat_map}
use Rattle.kapi_policy.specs.Views.{binding_of}
use Rattle.kapi_access.specs.Views.{gain_of, line_for}
use Rattle.kapi_access.proofs.gained.push_atoms.Given as goal

abbrev pub invariant-loop-atom : goal.invariant-loop-atom
invariant-loop-atom l =
    map gain_of l.list.items ≡ map gain_of l.initial.list.items ++ flat_map (line_for l.to (binding_of l.binding) l.fn.rule) (take l.atom-index l.atoms)
