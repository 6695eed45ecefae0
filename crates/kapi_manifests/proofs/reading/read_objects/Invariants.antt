use Rattle.std.proofs.Common.{◌≡◌, ◌+◌, ◌++◌, drop, length, map}
use Rattle.std.specs.List.{flat_map}
use Rattle.kapi_manifests.specs.Files.{data_of, faults_read, objects_read, read_piece, sum_of}
use Rattle.kapi_manifests.specs.Pieces.{piece_in}
use Rattle.kapi_manifests.proofs.reading.read_objects.Given as goal

abbrev pub invariant-loop-span : goal.invariant-loop-span
invariant-loop-span l = record {
  objects :
      map data_of l.all.objects.items ++ flat_map objects_read (map (λ s. read_piece (piece_in l.source.text.now s)) (drop l.span-index l.spans))
      ≡ flat_map objects_read (map (λ s. read_piece (piece_in l.source.text.now s)) l.spans);
  faults :
      length l.all.faults.items + sum_of faults_read (map (λ s. read_piece (piece_in l.source.text.now s)) (drop l.span-index l.spans))
      ≡ sum_of faults_read (map (λ s. read_piece (piece_in l.source.text.now s)) l.spans);
}
