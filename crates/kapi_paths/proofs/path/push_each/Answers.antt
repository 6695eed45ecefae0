use Rattle.std.proofs.Common.{◌≡◌, ⊎_elim, arith, subst}
use Rattle.std.proofs.lemmas.Bool.{cases_lt}
use Rattle.kapi_paths.specs.Graphs.{AddsPaths, IsCovered}
use Rattle.kapi_paths.proofs.Graphing.{adds_then, covered_kept}
use Rattle.kapi_paths.proofs.path.push_each.Goals as goal

pub loop-to-preserved : goal.loop-to-preserved
loop-to-preserved c =
    let nodes = c.args.nodes.now in
    let rows = c.args.search.now.graph in
    let start = c.args.search.now.start in
    let added : AddsPaths nodes rows start c.loop-to.list.items c.push_listed.new.list.items = c.in_ok-push_listed.ensures.added in
    record {
      added = adds_then nodes rows start c.args.list.now.items c.loop-to.list.items c.push_listed.new.list.items c.loop-to.invariant.added added;
      ordered = c.in_ok-push_listed.ensures.after;
      covered = λ i some below. ⊎_elim
          (λ less. covered_kept nodes rows c.loop-to.list.items c.push_listed.new.list.items added.kept start i (c.loop-to.invariant.covered i some less))
          (λ past. let e : c.loop-to.to ≡ i = omega (arith, below, past) in
          subst (λ k. IsCovered nodes rows c.push_listed.new.list.items start k) e c.in_ok-push_listed.ensures.covered)
          (cases_lt i c.loop-to.to);
    }
