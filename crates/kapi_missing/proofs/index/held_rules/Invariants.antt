use Rattle.std.proofs.Common.{map, take}
use Rattle.kapi_missing.specs.Private.Index.{IsIndex}
use Rattle.kapi_missing.specs.Private.Stoppers.{held_one}
use Rattle.kapi_missing.proofs.index.held_rules.Given as goal

abbrev pub invariant-loop-number : goal.invariant-loop-number
invariant-loop-number l = IsIndex (map held_one (take l.number l.held)) l.rules
