use Rattle.std.proofs.Common.{◌∙◌, ap, sym, option_map}
use Rattle.serde_json.specs.View.{view, members_view}
use Rattle.kapi_object.proofs.Puts.{members_view_set, place_found}
use Rattle.kapi_object.proofs.tree.set_member.Goals as goal

pub returns-in-Some : goal.returns-in-Some
returns-in-Some c =
    let there = place_found c.args.key.now c.args.members.now.entries c.get_mut.result c.get_mut.ensures.value in
    ap members_view (c.get_mut.follows.holds c.args.value).0
    ∙ members_view_set c.args.key.now c.args.value (view c.in-Some.place.now) c.args.members.now.entries c.requires
    (ap (option_map (λ x. view x.now)) (sym c.in-Some.is) ∙ there)
