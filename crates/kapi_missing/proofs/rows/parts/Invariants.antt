use Rattle.std.proofs.Common.{◌≡◌, [], map, take}
use Rattle.std.specs.List.{fold}
use Rattle.kapi_missing.specs.Private.Left.{items_in}
use Rattle.kapi_missing.specs.Private.Once.{HasWords, with_word}
use Rattle.kapi_missing.specs.Private.Stoppers.{word_in}
use Rattle.kapi_missing.proofs.rows.parts.Given as goal

abbrev pub invariant-loop-entry : goal.invariant-loop-entry
invariant-loop-entry l = (items_in l.parts.items ≡ map (word_in l.list) (fold with_word [] (take l.entry-index l.entries))) × HasWords l.seen (fold with_word [] (take l.entry-index l.entries))
