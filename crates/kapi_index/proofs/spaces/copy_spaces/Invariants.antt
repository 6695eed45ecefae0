use Rattle.std.proofs.Common.{◌≡◌, ◌++◌}
use Rattle.kapi_index.specs.Contents.{by_text, parts}
use Rattle.kapi_index.proofs.spaces.copy_spaces.Given as goal

abbrev pub invariant-loop-name : goal.invariant-loop-name
invariant-loop-name l = parts (by_text l.copied.entries) ++ parts (by_text l.name-iterator) ≡ parts (by_text l.spaces.entries)
