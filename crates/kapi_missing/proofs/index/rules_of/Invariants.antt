use Rattle.std.proofs.Common.{take}
use Rattle.kapi_missing.specs.Private.Index.{IsIndex}
use Rattle.kapi_missing.specs.Private.Stoppers.{stoppers}
use Rattle.kapi_missing.proofs.index.rules_of.Given as goal

abbrev pub invariant-loop-position : goal.invariant-loop-position
invariant-loop-position l = IsIndex (stoppers l.held (take l.position l.wanted)) l.rules
