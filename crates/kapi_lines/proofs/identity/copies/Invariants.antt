use Rattle.std.proofs.Common.{◌≡◌, map, take}
use Rattle.kapi_lines.proofs.identity.copies.Given as goal

abbrev pub invariant-loop-name : goal.invariant-loop-name
invariant-loop-name l = l.texts.items ≡ map (λ s. s.now) (take l.name-index l.names)
