use Rattle.std.proofs.Common.{sym, subst}
use Rattle.kapi_paths.specs.Levels.{IsSearched, Searched}
use Rattle.kapi_paths.proofs.Levelled.{is_none}
use Rattle.kapi_paths.proofs.search.Search.reaches.Goals as goal

pub returns-in-None : goal.returns-in-None
returns-in-None c = λ unreached.
    let a : IsSearched c.args.self.now.graph c.args.self.now.start c.args.self.now.table = subst (λ (v : Searched). IsSearched v.graph v.start v.table) c.self.view_is c.self.invariant in
    is_none c.args.self.now.graph c.args.self.now.start c.args.self.now.table a c.args.node (sym c.in-None.ensures)
