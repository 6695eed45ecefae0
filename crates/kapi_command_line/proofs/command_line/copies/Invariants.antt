use Rattle.std.proofs.Common.{◌≡◌, map, take}
use Rattle.kapi_command_line.proofs.command_line.copies.Given as goal

-- each text so far has its copy
abbrev pub invariant-loop-text : goal.invariant-loop-text
invariant-loop-text l = l.copies.items ≡ map (λ text. text.now) (take l.text-index l.texts)
