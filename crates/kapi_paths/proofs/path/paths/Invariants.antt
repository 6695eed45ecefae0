use Rattle.std.proofs.Common.{◌<◌, ℕ}
use Rattle.kapi_paths.specs.Chains.{Has}
use Rattle.kapi_paths.specs.Graphs.{AreBefore, IsCovered, IsSomewhere}
use Rattle.kapi_paths.specs.declared.path.Path.{Path}
use Rattle.kapi_paths.proofs.path.paths.Given as goal

abbrev pub invariant-loop-from : goal.invariant-loop-from
invariant-loop-from g l = record {
  came : (p : Path) → Has l.list.items p → (from : ℕ) × (0 < from) × (from < l.count) × IsSomewhere l.numbered l.rows.items from p;
  ordered : AreBefore l.numbered l.from 0 l.list.items;
  covered : (from : ℕ) → 0 < from → from < l.from → (to : ℕ) → IsCovered l.numbered l.rows.items l.list.items from to;
}
