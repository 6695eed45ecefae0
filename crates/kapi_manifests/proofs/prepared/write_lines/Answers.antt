use Rattle.std.proofs.Common.{◌≡◌, ◌∙◌, List, [], ap, length, map, subst}
use Rattle.serde_json.specs.Data.{Data}
use Rattle.kapi_manifests.specs.Files.{data_of}
use Rattle.kapi_manifests.specs.Made.{made}
use Rattle.kapi_manifests.specs.DefaultObjects.{model_of_object, defaults_among}
use Rattle.kapi_manifests.specs.Written.{AreOf}
use Rattle.kapi_manifests.proofs.Wrote.{in_order}
use Rattle.kapi_manifests.proofs.prepared.write_lines.Goals as goal

pub returns : goal.returns
returns c =
    let homes : List Data = map data_of c.args.homes.now in
    let objects : List Data = map data_of c.args.objects.now in
    let none : AreOf c.new-lines.result [] = record { text = c.new-lines.ensures.text; origins = ap length c.new-lines.ensures.origins } in
    let first = c.in_ok-push_all.ensures [] none in
    let second = c.in_ok-push_all-2.ensures _ first in
    let third = c.in_ok-push_all-3.ensures _ second in
    let fourth = c.in_ok-push_all-4.ensures _ third in
    let made_is : map data_of c.as_slice.result.now ≡ made c.args.table.now c.args.homes.now c.args.objects.now = ap (map data_of) c.as_slice.ensures.value ∙ c.in_ok-made.ensures in
    let default_is : map data_of c.as_slice-2.result.now ≡ defaults_among objects (map model_of_object c.args.default_objects.now) =
    ap (map data_of) c.as_slice-2.ensures.value ∙ c.in_ok-beneath.ensures in
    subst (λ (ds : List Data). AreOf c.push_all-4.new.self ds) (in_order homes _ _ objects _ _ made_is default_is) fourth
