use Rattle.kapi_serve.proofs.Placing.{found_at, free_of}
use Rattle.kapi_serve.proofs.clients.Clients.place.Goals as goal

pub returns-clause-found : goal.returns-clause-found
returns-clause-found c = found_at c.args.self.now.list.items c.args.slot c.first_on.result c.first_on.ensures

pub returns-clause-free : goal.returns-clause-free
returns-clause-free c = free_of c.args.self.now.list.items c.args.slot c.first_on.result c.first_on.ensures
