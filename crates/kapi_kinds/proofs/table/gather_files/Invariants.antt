use Rattle.std.proofs.Common.{◌≡◌, drop, map, option_and_then}
use Rattle.kapi_manifests.specs.Files.{bad_pieces, sum_of}
use Rattle.kapi_manifests.specs.Written.{objects_in_all}
use Rattle.kapi_kinds.specs.Tables.{grown, kept}
use Rattle.kapi_kinds.proofs.table.gather_files.Given as goal

abbrev pub invariant-loop-text : goal.invariant-loop-text
invariant-loop-text l =
    option_and_then (grown (sum_of bad_pieces (map (λ text. text.now) (drop l.text-index l.files))) (objects_in_all (map (λ text. text.now) (drop l.text-index l.files)))) (kept l.gathered)
    ≡ option_and_then (grown (sum_of bad_pieces (map (λ text. text.now) l.files)) (objects_in_all (map (λ text. text.now) l.files))) (kept l.initial.gathered)
