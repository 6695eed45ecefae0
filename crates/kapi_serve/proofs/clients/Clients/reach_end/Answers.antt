use Rattle.std.proofs.Common.{ap}
use Rattle.kapi_serve.specs.Private.Clients.{seat_of}
use Rattle.kapi_serve.proofs.Placing.{seats_same}
use Rattle.kapi_serve.proofs.Tending.{stands_ended}
use Rattle.kapi_serve.proofs.clients.Clients.reach_end.Goals as goal

pub returns-clause-seats : goal.returns-clause-seats
returns-clause-seats c = seats_same c.args.self.now.list.items c.args.index _ c.index_mut-client.result.now (ap seat_of c.index_mut-client.ensures.value)

pub returns-clause-stands : goal.returns-clause-stands
returns-clause-stands c = λ has m s. stands_ended m c.args.self.now.list.items c.args.self.now.awake c.args.index c.index_mut-client.result.now c.requires c.index_mut-client.ensures.value has s
