use Rattle.std.proofs.Common.{◌≡◌, ◌+◌, length, reverse}
use Rattle.kapi_paths.specs.Chains.{IsChain}
use Rattle.kapi_paths.specs.Levels.{IsFoundAt}
use Rattle.kapi_paths.proofs.search.Search.way_to.Given as goal

abbrev pub decreases-back : goal.decreases-back
decreases-back l = l.left

abbrev pub invariant-back : goal.invariant-back
invariant-back l = record {
  found : IsFoundAt l.self.table l.node l.left;
  chain : IsChain l.self.graph l.node (reverse l.path.items) l.to;
  steps : length l.path.items + l.left ≡ l.steps;
}
