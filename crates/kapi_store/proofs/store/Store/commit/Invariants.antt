use Rattle.std.proofs.Common.{◌≡◌, ◌+◌, ◌≤◌, ◌++◌, length}
use Rattle.std.specs.Vec.Iter.{into_iter_items}
use Rattle.kapi_store.specs.Limits.{window_limit}
use Rattle.kapi_store.specs.Changes.{placed_all, left_by, last_of, IsWrite}
use Rattle.kapi_store.specs.State.{objects, Fits}
use Rattle.kapi_store.proofs.store.Store.commit.Given as goal

-- the changes that are left, made now, lead to where all of them lead from the start
abbrev pub invariant-loop-change : goal.invariant-loop-change
invariant-loop-change l = let left = into_iter_items l.change-iterator in record {
  write : IsWrite l.kept left;
  fits : Fits l.self left;
  objects : placed_all (left_by left) (objects l.self) ≡ placed_all (left_by l.fn.ready) (objects l.fn.self);
  revision : l.self.revision + length left ≡ l.fn.self.revision + length l.fn.ready;
  window : last_of window_limit (l.self.window ++ left) ≡ last_of window_limit (l.fn.self.window ++ l.fn.ready);
  kept : length l.fn.self.window ≤ window_limit → length l.self.window ≤ window_limit;
  table : l.self.table ≡ l.fn.self.table;
  first : l.self.first ≡ l.fn.self.first;
}
