use Rattle.std.proofs.Common.{◌≡◌, ◌∷◌, ◌&&◌, [], length, true, arith}
use Rattle.std.proofs.lemmas.Nat.{mul-le}
use Rattle.kapi_missing.proofs.Gridding.{all_placed, place_within, placed_at, placed_more}
use Rattle.kapi_missing.specs.Private.Grid.{placed_items}
use Rattle.kapi_missing.specs.Private.Left.{item}
use Rattle.kapi_missing.specs.Private.Stoppers.{meets}
use Rattle.kapi_missing.proofs.grid.push_unmarked.Goals as goal

pub overflow_mul-row : goal.overflow_mul-row
overflow_mul-row c =
    let same = c.as_slice-group-items.ensures.value in
    let less = place_within c.args.grid.now.columns.groups.items c.args.rule.now.groups.items c.loop-group.group-index c.group-item.result c.requires.places.groups
    (rw same at c.loop-group-test.true) (rw same at c.group-item.is) in
    let few = c.requires.grid.few.groups in
    let resources = c.requires.grid.few.resources in
    let size = c.len.ensures in
    let most = mul-le c.group-item.result.place c.len.result 63 64 (omega (arith, less, few)) (omega (arith, resources, size)) in
    omega (arith, most)

pub push_resources-requires-clause-first : goal.push_resources-requires-clause-first
push_resources-requires-clause-first c =
    let same = c.as_slice-group-items.ensures.value in
    let less = place_within c.args.grid.now.columns.groups.items c.args.rule.now.groups.items c.loop-group.group-index c.group-item.result c.requires.places.groups
    (rw same at c.loop-group-test.true) (rw same at c.group-item.is) in
    let few = c.requires.grid.few.groups in
    let resources = c.requires.grid.few.resources in
    let size = c.len.ensures in
    let most = mul-le c.group-item.result.place c.len.result 63 64 (omega (arith, less, few)) (omega (arith, resources, size)) in
    omega (arith, most)

pub loop-group-preserved : goal.loop-group-preserved
loop-group-preserved c = λ all marked.
    let same = c.as_slice-group-items.ensures.value in
    let within = rw same at c.loop-group-test.true in
    let is = rw same at c.group-item.is in
    let size : c.len.result ≡ length c.args.grid.now.columns.resources.items = (let long = c.len.ensures in omega (arith, long)) in
    placed_more all (λ s. true) (placed_items c.args.rule.now.resources.items ∷ placed_items c.args.rule.now.verbs.items ∷ placed_items c.args.rule.now.names.items ∷ []) c.args.rule.now.groups.items
    c.loop-group.group-index c.group-item.result [] c.args.list.now.items c.loop-group.list.items c.push_resources.new.list.items within is (c.loop-group.invariant all marked)
    (c.in_ok-push_resources.ensures all (λ s. true && meets (item c.group-item.result.part) s)
    (rw size (marked c.group-item.result.place (item c.group-item.result.part)
    (placed_at c.args.grid.now.columns.groups.items c.args.rule.now.groups.items c.loop-group.group-index c.group-item.result c.requires.places.groups within is))))

pub returns : goal.returns
returns c = λ all marked.
    rw (all_placed c.args.rule.now.groups.items c.loop-group.group-index (rw c.as_slice-group-items.ensures.value at c.loop-group-test.false)) at (c.loop-group.invariant all marked)
