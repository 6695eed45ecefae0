use Rattle.std.proofs.Common.{◌≡◌, ◌++◌, map, take}
use Rattle.kapi_replay.proofs.manifests.push_texts.Given as goal

abbrev pub invariant-loop-text : goal.invariant-loop-text
invariant-loop-text l = map (λ text. text.now) l.texts.items ≡ map (λ text. text.now) l.initial.texts.items ++ take l.text-index l.more
