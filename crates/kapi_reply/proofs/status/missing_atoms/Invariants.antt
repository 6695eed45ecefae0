use Rattle.std.proofs.Common.{◌≡◌, map, take}
use Rattle.kapi_reply.specs.Views.{cause_data}
use Rattle.kapi_reply.specs.Status.{missing_atom}
use Rattle.kapi_reply.proofs.status.missing_atoms.Given as goal

abbrev pub invariant-loop-atom : goal.invariant-loop-atom
invariant-loop-atom l = map cause_data l.causes.items ≡ map missing_atom (take l.atom-index l.atoms)
