use Rattle.std.proofs.Common.{[], ◌∷◌}
use Rattle.std.proofs.lemmas.List.{map-append}
use Rattle.kapi_manifests.specs.Files.{data_of}
use Rattle.kapi_manifests.proofs.Taken.{takes_more}
use Rattle.kapi_manifests.proofs.sorted.Sorted.take_all.Goals as goal

pub loop-manifest-preserved : goal.loop-manifest-preserved
loop-manifest-preserved c =
    rw (map-append data_of c.loop-manifest.yielded (c.in-Some.manifest ∷ [])) (takes_more _ _ _ _ _ _ 0 0 c.loop-manifest.invariant c.in_ok-take.ensures)
