-- How contracts see the fields of a store.
use Rattle.std.specs.Prelude.{map}
use Rattle.kapi_store.specs.declared.store.Store.TheInside.{Inside}
use Rattle.kapi_store.specs.Private.Hidden.{hidden_key, seen}
use Rattle.kapi_store.specs.State.{State}

-- a store as contracts see it
abbrev pub state_of : Inside → State
state_of s = record {
  table = s.table;
  slots = map (seen s.hidden) s.slots.entries;
  reserved = hidden_key s.hidden;
  first = s.first;
  revision = s.revision;
  window = s.window;
}
