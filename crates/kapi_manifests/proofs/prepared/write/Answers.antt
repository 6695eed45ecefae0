use Rattle.std.proofs.Common.{◌≡◌, ◌∙◌, ◌++◌, List, ap, map, refl}
use Rattle.serde_json.specs.Data.{Data}
use Rattle.kapi_manifests.specs.Dangling.{origin_of}
use Rattle.kapi_manifests.specs.Files.{data_of}
use Rattle.kapi_manifests.specs.Made.{made}
use Rattle.kapi_manifests.specs.DefaultObjects.{model_of_object, defaults_among, all_default_objects}
use Rattle.kapi_manifests.specs.Written.{AreOf, IsDangling, bindings_among, roles_among}
use Rattle.kapi_manifests.proofs.prepared.write.Goals as goal

pub returns : goal.returns
returns c =
    let default_objects : map model_of_object c.as_slice-default_objects.result.now ≡ all_default_objects c.args.options.defaults =
    ap (map model_of_object) c.as_slice-default_objects.ensures.value ∙ c.in_ok-default_objects.ensures in
    let homes = c.in_ok-homes.homes.items in
    let objects = c.args.sorted.objects.items in
    let all : List Data =
    map data_of homes ++ (made c.args.options.kinds.now homes objects ++ (defaults_among (map data_of objects) (all_default_objects c.args.options.defaults) ++ map data_of objects)) in
    let lines : AreOf c.in_ok-lines.lines all = rw (← c.as_slice-6.ensures.value, ← c.as_slice-7.ensures.value, ← default_objects) c.in_ok-lines.ensures in
    let dangling : IsDangling c.args.options.defaults (map origin_of c.in_ok-dangling.dangling.items) objects =
    rw (← c.as_slice-5.ensures.value) (c.in_ok-dangling.ensures _ default_objects) in
    record {
      all = all;
      loaded = record { homes = homes; are_homes = c.in_ok-homes.ensures; all = refl };
      text = lines.text;
      origins = lines.origins;
      faults = refl;
      roles = c.count_of-roles.ensures ∙ ap (λ ms. roles_among (map data_of ms)) c.as_slice.ensures.value;
      bindings = c.count_of-bindings.ensures ∙ ap (λ ms. bindings_among (map data_of ms)) c.as_slice-2.ensures.value;
      dangling = dangling;
    }
