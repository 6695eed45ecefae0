use Rattle.kapi_model.proofs.lookup.Lookup.get.Goals as goal

pub search-requires : goal.search-requires
search-requires c = c.args.self.now.ordered c.if-self.true
