use Rattle.std.proofs.Common.{◌≡◌, replicate}
use Rattle.kapi_publishing.specs.Boards.{fresh}
use Rattle.kapi_publishing.proofs.desk.Desk.seats.Given as goal

abbrev pub invariant-loop : goal.invariant-loop
invariant-loop l = (l.self ≡ l.initial.self) × (l.seats.items ≡ replicate l.counter (fresh l.initial.self))
