use Rattle.std.proofs.Common.{map, take}
use Rattle.std.specs.List.{flat_map}
use Rattle.kapi_manifests.specs.Files.{Takes, faults_read, objects_read, read_piece, sum_of}
use Rattle.kapi_manifests.specs.Pieces.{piece_in}
use Rattle.kapi_manifests.proofs.reading.take_file.Given as goal

abbrev pub invariant-loop-span : goal.invariant-loop-span
invariant-loop-span l = Takes l.options l.initial.sorted l.sorted
    (flat_map objects_read (map (λ s. read_piece (piece_in l.source.text.now s)) (take l.span-index l.spans)))
    (sum_of faults_read (map (λ s. read_piece (piece_in l.source.text.now s)) (take l.span-index l.spans)))
