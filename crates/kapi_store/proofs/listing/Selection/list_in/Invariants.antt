use Rattle.std.proofs.Common.{◌≡◌, ◌++◌, map}
use Rattle.kapi_store.specs.Private.Hidden.{visible}
use Rattle.kapi_store.specs.Listing.{listed_objects, shown}
use Rattle.kapi_store.proofs.listing.Selection.list_in.Given as goal

abbrev pub invariant-loop-key : goal.invariant-loop-key
invariant-loop-key l =
    map shown l.listed.items ++ listed_objects l.self.row.now l.self.namespace.now l.self.selector.now l.self.name.now (visible l.hidden l.key-iterator)
    ≡ listed_objects l.self.row.now l.self.namespace.now l.self.selector.now l.self.name.now (visible l.hidden l.slots.entries)
