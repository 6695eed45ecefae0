use Rattle.std.proofs.Common.{◌≡◌, take}
use Rattle.std.specs.List.{flat_map}
use Rattle.kapi_c_requests.specs.Lists.{atom_line}
use Rattle.kapi_c_requests.proofs.listing.atom_lines.Given as goal

-- the lines of the atoms so far
abbrev pub invariant-loop-atom : goal.invariant-loop-atom
invariant-loop-atom l = l.text.items ≡ flat_map atom_line (take l.atom-index l.atoms)
