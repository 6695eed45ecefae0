use Rattle.std.proofs.Common.{◌≡◌, map, take}
use Rattle.kapi_replay.specs.Manifests.{all_texts}
use Rattle.kapi_replay.proofs.manifests.all_texts.Given as goal

abbrev pub invariant-loop-file : goal.invariant-loop-file
invariant-loop-file l = map (λ text. text.now) l.texts.items ≡ all_texts l.loads (take l.file-index l.files)
