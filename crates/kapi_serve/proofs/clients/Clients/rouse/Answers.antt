use Rattle.std.proofs.Common.{ap, false}
use Rattle.kapi_serve.specs.Private.Clients.{seat_of}
use Rattle.kapi_serve.proofs.Placing.{seats_same}
use Rattle.kapi_serve.proofs.Tending.{keeps_shown, stands_kept}
use Rattle.kapi_serve.proofs.clients.Clients.rouse.Goals as goal

pub returns-clause-seats : goal.returns-clause-seats
returns-clause-seats c = seats_same c.args.self.now.list.items c.args.index _ c.index_mut.result.now (ap seat_of c.index_mut.ensures.value)

pub returns-clause-stands : goal.returns-clause-stands
returns-clause-stands c = λ m s. stands_kept m c.args.self.now.list.items c.args.self.now.awake c.add.new.self c.args.index c.index_mut.result.now _ c.requires c.index_mut.ensures.value (keeps_shown _ false) c.add.ensures.within c.add.ensures.others s
