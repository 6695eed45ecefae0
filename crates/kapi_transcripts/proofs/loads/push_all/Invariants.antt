use Rattle.std.proofs.Common.{◌≡◌, ◌++◌, map, take}
use Rattle.kapi_transcripts.proofs.loads.push_all.Given as goal

abbrev pub invariant-loop-file : goal.invariant-loop-file
invariant-loop-file l = l.names.items ≡ l.initial.names.items ++ map (λ f. f.name) (take l.file-index l.files)
