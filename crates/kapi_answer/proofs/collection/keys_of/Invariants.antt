use Rattle.std.proofs.Common.{◌≡◌, map, take}
use Rattle.kapi_answer.proofs.collection.keys_of.Given as goal

abbrev pub invariant-loop-one : goal.invariant-loop-one
invariant-loop-one l = l.keys.items ≡ map (λ x. x.key.now) (take l.one-index l.listed)
