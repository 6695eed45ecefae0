use Rattle.std.proofs.Common.{sym, subst}
use Rattle.kapi_paths.specs.Levels.{IsSearched, Searched}
use Rattle.kapi_paths.proofs.Levelled.{is_none, is_shortest}
use Rattle.kapi_paths.proofs.search.Search.path_to.Goals as goal

pub returns-in_ok-way_to-in-Some-clause-shortest : goal.returns-in_ok-way_to-in-Some-clause-shortest
returns-in_ok-way_to-in-Some-clause-shortest c =
    let a : IsSearched c.args.self.now.graph c.args.self.now.start c.args.self.now.table = subst (λ (v : Searched). IsSearched v.graph v.start v.table) c.self.view_is c.self.invariant in
    is_shortest c.args.self.now.graph c.args.self.now.start c.args.self.now.table a c.args.to _ c.in-Some.found (sym c.in-Some.ensures) c.in_ok-way_to-in-Some.ensures.steps

pub returns-in-None-clause-none : goal.returns-in-None-clause-none
returns-in-None-clause-none c =
    let a : IsSearched c.args.self.now.graph c.args.self.now.start c.args.self.now.table = subst (λ (v : Searched). IsSearched v.graph v.start v.table) c.self.view_is c.self.invariant in
    is_none c.args.self.now.graph c.args.self.now.start c.args.self.now.table a c.args.to (sym c.in-None.ensures)
