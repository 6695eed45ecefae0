use Rattle.std.proofs.Common.{◌≡◌, ◌<◌, ℕ, List, Some, subst}
use Rattle.std.specs.List.{slice_get}
use Rattle.kapi_paths.specs.Chains.{Has, IsChain}
use Rattle.kapi_paths.specs.Graphs.{AreAt}
use Rattle.kapi_paths.proofs.Graphing.{adds_one, chain_inside}
use Rattle.kapi_paths.proofs.Grown.{has_last}
use Rattle.kapi_paths.proofs.Numbering.{before_push}
use Rattle.kapi_paths.proofs.path.push_path.Goals as goal

pub drawn-requires-clause-numbers : goal.drawn-requires-clause-numbers
drawn-requires-clause-numbers c = λ n h.
    let chain : IsChain c.args.search.now.graph c.args.search.now.start c.in-Some.numbers.items c.args.to = rw c.in-Some.is at c.in_ok-numbers.ensures.chain in
    subst (λ k. n < k) c.requires.nodes
    (chain_inside c.args.search.now.graph c.requires.inside c.in-Some.numbers.items c.args.search.now.start c.args.to chain n
    (subst (λ (l : List ℕ). Has l n) c.as_slice.ensures.value h))

pub returns-in_ok-push-in-Some-clause-added : goal.returns-in_ok-push-in-Some-clause-added
returns-in_ok-push-in-Some-clause-added c =
    let e = c.in_ok-path-in-Some.ensures in
    let path = c.in_ok-path-in-Some.path in
    rw c.in_ok-push-in-Some.ensures.items
    (adds_one c.args.nodes.now c.args.search.now.graph c.args.search.now.start c.args.list.now.items path (record {
      to = c.args.to;
      drawn = record {
        numbers = c.in-Some.numbers.items;
        at_from = subst (λ k. slice_get c.args.nodes.now k ≡ Some path.from) c.start.ensures e.from;
        at_to = e.to;
        at_path = subst (λ (l : List ℕ). AreAt c.args.nodes.now l path.nodes) c.as_slice.ensures.value e.path;
        chain = rw c.in-Some.is at c.in_ok-numbers.ensures.chain;
        shortest = rw c.in-Some.is at c.in_ok-numbers.ensures.shortest;
      };
      alone = c.requires.alone;
      other = c.requires.other;
      listed = c.requires.listed path.to e.to;
    }))

pub returns-in_ok-push-in-Some-clause-after : goal.returns-in_ok-push-in-Some-clause-after
returns-in_ok-push-in-Some-clause-after c =
    let e = c.in_ok-path-in-Some.ensures in
    let path = c.in_ok-path-in-Some.path in
    let start = c.args.search.now.start in
    rw c.in_ok-push-in-Some.ensures.items
    (before_push c.args.nodes.now start c.args.to c.args.list.now.items path c.requires.once c.requires.before (subst (λ k. slice_get c.args.nodes.now k ≡ Some path.from) c.start.ensures e.from) e.to)

pub returns-in_ok-push-in-Some-clause-there : goal.returns-in_ok-push-in-Some-clause-there
returns-in_ok-push-in-Some-clause-there c =
    let e = c.in_ok-path-in-Some.ensures in
    let path = c.in_ok-path-in-Some.path in
    λ _. rw c.in_ok-push-in-Some.ensures.items (record {
      path = path;
      there = has_last c.args.list.now.items path;
      at_from = subst (λ k. slice_get c.args.nodes.now k ≡ Some path.from) c.start.ensures e.from;
      at_to = e.to;
    })
