use Rattle.std.proofs.Common.{map, take}
use Rattle.kapi_manifests.specs.Files.{Takes, bad_pieces, sum_of}
use Rattle.kapi_manifests.specs.Written.{objects_in_all}
use Rattle.kapi_manifests.proofs.prepared.take_files.Given as goal

abbrev pub invariant-loop-text : goal.invariant-loop-text
invariant-loop-text l = Takes l.options l.initial.sorted l.sorted
    (objects_in_all (map (λ text. text.now) (take l.text-index l.files)))
    (sum_of bad_pieces (map (λ text. text.now) (take l.text-index l.files)))
