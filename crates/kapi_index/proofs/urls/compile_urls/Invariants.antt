use Rattle.std.proofs.Common.{◌≡◌, map, take}
use Rattle.kapi_index.specs.Compiled.{compiled_url}
use Rattle.kapi_index.proofs.urls.compile_urls.Given as goal

abbrev pub invariant-loop-entry : goal.invariant-loop-entry
invariant-loop-entry l = l.urls.items ≡ map compiled_url (take l.entry-index l.entries)
