use Rattle.std.proofs.Common.{◌≡◌, ◌++◌, take}
use Rattle.kapi_access.specs.Cells.{behind_commas}
use Rattle.kapi_access.proofs.cells.push_texts.Given as goal

abbrev pub invariant-loop-entry : goal.invariant-loop-entry
invariant-loop-entry l = l.text.items ≡ l.initial.text.items ++ behind_commas (take l.entry-index l.texts)
