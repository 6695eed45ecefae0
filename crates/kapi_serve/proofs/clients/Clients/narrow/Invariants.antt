use Rattle.std.specs.Prelude.{◌-◌}
use Rattle.kapi_core.specs.Machine.{Machine}
use Rattle.kapi_serve.specs.Private.ClientsMatch.{AllMatch, ClientsMatch}
use Rattle.kapi_serve.proofs.clients.Clients.narrow.Given as goal

abbrev pub invariant-loop-start : goal.invariant-loop-start
invariant-loop-start l = (m : Machine) → ClientsMatch m l.self → AllMatch m l.self.list.items (record { start = l.start; end = l.end })

abbrev pub decreases-loop-start : goal.decreases-loop-start
decreases-loop-start l = l.end - l.start
