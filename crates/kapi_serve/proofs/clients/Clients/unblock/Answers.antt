use Rattle.kapi_serve.proofs.Placing.{freed_found, freed_none}
use Rattle.kapi_serve.proofs.clients.Clients.unblock.Goals as goal

pub returns-in-Some-clause-freed : goal.returns-in-Some-clause-freed
returns-in-Some-clause-freed c = freed_found c.args.self.now.list.items _ c.args.slot c.in-Some.index c.in-Some.ensures.first c.in-Some.ensures.bound c.free.ensures.freed

pub returns-in-None-clause-freed : goal.returns-in-None-clause-freed
returns-in-None-clause-freed c = freed_none c.args.self.now.list.items c.args.slot (c.place.ensures.free c.in-None.is)
