use Rattle.std.proofs.Common.{◌≡◌, ◌+◌, ◌++◌, map, length}
use Rattle.std.specs.Vec.Iter.{into_iter_items}
use Rattle.kapi_store.specs.Changes.{AreRemovals, Follow, revision_of}
use Rattle.kapi_store.specs.Private.Hidden.{visible}
use Rattle.kapi_store.specs.Plain.{plain_change, trees, removals}
use Rattle.kapi_store.proofs.ready.Ready.removals.Given as goal

-- the changes made so far, and those of the keys that are left, are all
abbrev pub invariant-loop-key : goal.invariant-loop-key
invariant-loop-key l = let left = into_iter_items l.key-iterator in record {
  changes : map plain_change l.list.items ++ removals (trees (visible l.hidden l.slots.entries)) l.revision left ≡ removals (trees (visible l.hidden l.slots.entries)) l.fn.before l.fn.keys.items;
  removals : AreRemovals l.list.items;
  numbered : Follow revision_of l.fn.before l.list.items;
  revision : l.revision ≡ l.fn.before + length l.list.items;
  left : l.revision + length left ≡ l.fn.before + length l.fn.keys.items;
}
