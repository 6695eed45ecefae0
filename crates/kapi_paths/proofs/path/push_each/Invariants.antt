use Rattle.std.proofs.Common.{◌<◌, ℕ}
use Rattle.kapi_paths.specs.Graphs.{AddsPaths, AreBefore, IsCovered}
use Rattle.kapi_paths.proofs.path.push_each.Given as goal

abbrev pub invariant-loop-to : goal.invariant-loop-to
invariant-loop-to l = record {
  added : AddsPaths l.nodes l.search.graph l.search.start l.initial.list.items l.list.items;
  ordered : AreBefore l.nodes l.search.start l.to l.list.items;
  covered : (to : ℕ) → 0 < to → to < l.to → IsCovered l.nodes l.search.graph l.list.items l.search.start to;
}
