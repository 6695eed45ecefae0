use Rattle.kapi_manifests.specs.Files.{bad_pieces, objects_of}
use Rattle.kapi_manifests.proofs.Taken.{takes_next}
use Rattle.kapi_manifests.proofs.prepared.take_files.Goals as goal

pub loop-text-preserved : goal.loop-text-preserved
loop-text-preserved c =
    takes_next (λ text. text.now) objects_of bad_pieces _ _ _ _ c.args.files.now c.loop-text.text-index _ c.loop-text-test.true c.loop-text.invariant c.in_ok-take_file.ensures
