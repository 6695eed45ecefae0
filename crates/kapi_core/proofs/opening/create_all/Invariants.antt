use Rattle.std.proofs.Common.{map, take}
use Rattle.std.specs.List.{fold}
use Rattle.kapi_core.specs.Machine.{Machine}
use Rattle.kapi_core.specs.Opening.{with_opening}
use Rattle.kapi_core.specs.Private.Openings.{Holds, opening_data}
use Rattle.kapi_core.proofs.opening.create_all.Given as goal

abbrev pub invariant-loop-object : goal.invariant-loop-object
invariant-loop-object g l = (m : Machine) → Holds l.initial.store (g.P.Policy.content l.initial.policy) l.initial.tracker m → Holds l.store (g.P.Policy.content l.policy) l.tracker (fold with_opening m (map opening_data (take l.object-index l.objects)))
