use Rattle.std.proofs.Common.{◌≡◌, drop, map}
use Rattle.kapi_command_line.specs.Listens.{listens_of}
use Rattle.kapi_command_line.proofs.Values.{after}
use Rattle.kapi_command_line.proofs.command_line.each_listen.Given as goal

-- the ports of the words so far, and then those of the words that are left
abbrev pub invariant-loop-word : goal.invariant-loop-word
invariant-loop-word l = listens_of l.free (map (λ word. word.now) l.words) ≡ after l.listens.items (listens_of l.free (map (λ word. word.now) (drop l.word-index l.words)))
