use Rattle.std.proofs.Common.{◌≤◌, ◌+◌, length}
use Rattle.kapi_paths.specs.Levels.{vacant}
use Rattle.kapi_paths.proofs.Levelled.{Levelled}
use Rattle.kapi_paths.proofs.search.table.Given as goal

abbrev pub decreases-levels : goal.decreases-levels
decreases-levels l = vacant l.front.table + length l.front.next

abbrev pub invariant-levels : goal.invariant-levels
invariant-levels l = record {
  levelled : Levelled l.graph l.from l.steps l.front;
  room : l.steps + (vacant l.front.table + length l.front.next) ≤ length l.graph;
}
