-- The changes that a store lends.
use Rattle.std.specs.Prelude.{List, drop}
use Rattle.kapi_store.specs.declared.change.Change.{Change}
use Rattle.kapi_store.specs.declared.window.Changes.{Changes}

-- the changes of the window but the first so many, the oldest first
abbrev pub changes_of : Changes → List Change
changes_of c = drop c.skipped c.window.now
