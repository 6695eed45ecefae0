use Rattle.std.proofs.Common.{◌∙◌, ◌++◌, ap, ap₂, map}
use Rattle.std.proofs.lemmas.List.{map-append}
use Rattle.kapi_manifests.specs.Files.{data_of}
use Rattle.kapi_manifests.specs.DefaultObjects.{defaults_among}
use Rattle.kapi_manifests.proofs.prepared.homes.Goals as goal

pub returns : goal.returns
returns c =
    ap (map data_of) c.in_ok-append.ensures.items ∙ map-append data_of c.in_ok-homes.homes.items c.args.namespaces.items
    ∙ ap (λ l. l ++ map data_of c.args.namespaces.items) (c.in_ok-homes.ensures ∙ ap₂ defaults_among (ap (map data_of) c.as_slice.ensures.value) c.default_namespace_objects.ensures)
