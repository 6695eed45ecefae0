use Rattle.std.proofs.Common.{◌≡◌, ◌∙◌, ◌+◌, [], ◌∷◌, ap, drop, map, refl, sym}
use Rattle.std.proofs.lemmas.List.{drop_all}
use Rattle.kapi_manifests.specs.Files.{data_of}
use Rattle.kapi_manifests.specs.declared.sorted.Manifest.{Manifest}
use Rattle.kapi_kinds.proofs.Grown.{dropped, grown_next, grown_none}
use Rattle.kapi_kinds.proofs.table.gather_objects.Goals as goal

pub loop-manifest-preserved : goal.loop-manifest-preserved
loop-manifest-preserved c =
    let manifests = c.args.objects.now in
    let i = c.loop-manifest.manifest-index in
    let rest : drop i manifests ≡ c.manifest-item.result ∷ drop (i + 1) manifests =
    dropped manifests i c.manifest-item.result c.loop-manifest-test.true ∙ ap (λ (m : Manifest). m ∷ drop (i + 1) manifests) (sym c.manifest-item.is) in
    grown_next _ _ _ 0 0 0 (data_of c.manifest-item.result ∷ []) (map data_of (drop (i + 1) manifests)) (map data_of (drop i manifests))
    refl (ap (map data_of) rest) c.loop-manifest.invariant c.in_ok-gather.ensures

pub returns : goal.returns
returns c =
    let none : drop c.loop-manifest.manifest-index c.args.objects.now ≡ [] = drop_all c.loop-manifest.manifest-index c.args.objects.now c.loop-manifest-test.false in
    let all = rw none at c.loop-manifest.invariant in
    sym (grown_none _) ∙ all
