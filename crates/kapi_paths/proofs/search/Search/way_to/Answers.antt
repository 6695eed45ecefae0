use Rattle.std.proofs.Common.{◌≡◌, ℕ, [], ◌∷◌, ◌++◌, reverse, subst, sym, arith}
use Rattle.std.proofs.lemmas.List.{length_push, length-reverse, reverse-append}
use Rattle.kapi_paths.specs.Chains.{IsChain}
use Rattle.kapi_paths.specs.Levels.{IsFoundAt, IsSearched, Searched}
use Rattle.kapi_paths.proofs.Levelled.{at_start, step_back}
use Rattle.kapi_paths.proofs.search.Search.way_to.Goals as goal

pub back-preserved : goal.back-preserved
back-preserved c =
    let a : IsSearched c.args.self.now.graph c.args.self.now.start c.args.self.now.table = subst (λ (v : Searched). IsSearched v.graph v.start v.table) c.self.view_is c.self.invariant in
    let p = step_back c.args.self.now.graph c.args.self.now.start c.args.self.now.table a c.back.node c.back.left c.before-node.result c.back.invariant.found (omega arith) c.before-node.ensures in
    let items : c.push.new.self.items ≡ c.back.path.items ++ c.back.node ∷ [] = c.in_ok-push.ensures.items in
    let longer = length_push c.back.path.items c.back.node in
    let steps = c.back.invariant.steps in
    record {
      found = p.0;
      chain = rw (items, reverse-append c.back.path.items (c.back.node ∷ [])) (p.1, c.back.invariant.chain);
      steps = rw items (omega (arith, longer, steps));
    }

pub returns : goal.returns
returns c =
    let a : IsSearched c.args.self.now.graph c.args.self.now.start c.args.self.now.table = subst (λ (v : Searched). IsSearched v.graph v.start v.table) c.self.view_is c.self.invariant in
    let zero : c.back.left ≡ 0 = omega arith in
    let e = at_start c.args.self.now.graph c.args.self.now.start c.args.self.now.table a c.back.node (subst (λ (k : ℕ). IsFoundAt c.args.self.now.table c.back.node k) zero c.back.invariant.found) in
    let steps = c.back.invariant.steps in
    let same = length-reverse c.back.path.items in
    rw c.reverse.ensures.items (record {
      chain = subst (λ (n : ℕ). IsChain c.args.self.now.graph n (reverse c.back.path.items) c.args.to) (sym e) c.back.invariant.chain;
      steps = omega (arith, same, steps, zero);
    })
