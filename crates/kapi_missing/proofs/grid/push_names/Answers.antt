use Rattle.std.proofs.Common.{◌∷◌, [], arith}
use Rattle.kapi_missing.proofs.Gridding.{all_placed, covered_names, place_within, placed_at, placed_more}
use Rattle.kapi_missing.proofs.Counted.{none_left}
use Rattle.kapi_missing.specs.Private.Grid.{placed_items}
use Rattle.kapi_missing.specs.Private.Left.{item, left}
use Rattle.kapi_missing.proofs.grid.push_names.Goals as goal

pub push_name-requires : goal.push_name-requires
push_name-requires c =
    let less = place_within c.args.columns.now.names.items c.args.names.now c.loop-name.name-index c.name-item.result c.requires.places c.loop-name-test.true c.name-item.is in
    let few = c.requires.few.names in
    omega (arith, less, few)

pub loop-name-preserved : goal.loop-name-preserved
loop-name-preserved c = λ all test marked.
    placed_more all test [] c.args.names.now c.loop-name.name-index c.name-item.result (item c.args.group ∷ item c.args.resource ∷ item c.args.verb ∷ []) c.args.list.now.items c.loop-name.list.items
    c.push_name.new.list.items c.loop-name-test.true c.name-item.is (c.loop-name.invariant all test marked)
    (c.in_ok-push_name.ensures all test
    (marked c.name-item.result.place (item c.name-item.result.part)
    (placed_at c.args.columns.now.names.items c.args.names.now c.loop-name.name-index c.name-item.result c.requires.places c.loop-name-test.true c.name-item.is)))

pub returns : goal.returns
returns c = λ all test marked. rw (all_placed c.args.names.now c.loop-name.name-index c.loop-name-test.false) at (c.loop-name.invariant all test marked)

pub returns-then-has_all : goal.returns-then-has_all
returns-then-has_all c = λ all test marked.
    none_left (item c.args.group ∷ item c.args.resource ∷ item c.args.verb ∷ []) (left all test (placed_items c.args.names.now ∷ [])) c.args.list.now.items
    (covered_names all test c.args.columns.now.names.items c.args.word c.args.bits c.args.names.now c.requires.few.names (c.has_all.ensures c.if-has_all.true) c.requires.bits c.requires.places marked)
