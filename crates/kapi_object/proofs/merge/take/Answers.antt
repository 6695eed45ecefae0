use Rattle.std.proofs.Common.{◌≡◌, ◌∙◌, Option, option_map, ap, sym, rules}
use Rattle.std.specs.Option.{unwrap_or}
use Rattle.serde_json.specs.Data.{Data, null, put}
use Rattle.serde_json.specs.View.{view, members_view}
use Rattle.serde_json.specs.declared.value.Value.{the_lemmas}
use Rattle.serde_json.specs.declared.value.Value.TheVariants.{Null}
use Rattle.kapi_object.proofs.Changes.{put_over}
use Rattle.kapi_object.proofs.Puts.{place_found}
use Rattle.kapi_object.proofs.merge.take.Goals as goal

null_view : view Null ≡ null
null_view = search (rules, the_lemmas)

-- what is found, or null
abbrev or_null : Option Data → Data
or_null o = unwrap_or o null

pub returns-in-Some-clause-value : goal.returns-in-Some-clause-value
returns-in-Some-clause-value c =
    let there = place_found c.args.name.now c.args.members.now.entries c.get_mut.result c.get_mut.ensures.value in
    ap view c.replace.ensures.value ∙ ap or_null (ap (option_map (λ x. view x.now)) (sym c.in-Some.is) ∙ there)

pub returns-in-Some-clause-others : goal.returns-in-Some-clause-others
returns-in-Some-clause-others c d =
    ap (λ m. put c.args.name.now d (members_view m)) (c.get_mut.follows.holds c.replace.new.dest).0
    ∙ put_over c.args.name.now d c.replace.new.dest c.args.members.now.entries c.get_mut.ensures.ordered

pub returns-in-None-clause-value : goal.returns-in-None-clause-value
returns-in-None-clause-value c =
    let there = place_found c.args.name.now c.args.members.now.entries c.get_mut.result c.get_mut.ensures.value in
    null_view ∙ ap or_null (ap (option_map (λ x. view x.now)) (sym c.in-None.is) ∙ there)
