use Rattle.std.proofs.Common.{◌∙◌, arith, sym}
use Rattle.kapi_access.proofs.Places.{inside, is_place}
use Rattle.kapi_access.specs.Private.Places.{key_of}
use Rattle.kapi_access.proofs.merge_rules.add_at.Goals as goal

pub index-requires : goal.index-requires
index-requires c = omega (arith, inside c.args.part (key_of c.args.part c.args.rule) c.args.rules.now.items c.args.place c.requires)

pub join_at-requires-clause-place : goal.join_at-requires-clause-place
join_at-requires-clause-place c =
    is_place c.args.part c.args.rules.now.items c.args.rule c.index.result.now c.args.place c.requires c.index.ensures (sym c.are_alike.ensures ∙ c.if-are_alike.true)

pub join_at-requires-clause-inside : goal.join_at-requires-clause-inside
join_at-requires-clause-inside c = inside c.args.part (key_of c.args.part c.args.rule) c.args.rules.now.items c.args.place c.requires
