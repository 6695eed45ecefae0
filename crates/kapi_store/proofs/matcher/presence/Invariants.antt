use Rattle.std.proofs.Common.{◌≡◌, ◌++◌, map}
use Rattle.kapi_store.specs.Private.Matching.{presence_of}
use Rattle.kapi_store.proofs.matcher.presence.Given as goal

abbrev pub invariant-loop-key : goal.invariant-loop-key
invariant-loop-key l = l.requirements.items ++ map presence_of l.key-iterator ≡ map presence_of l.keys.keys
