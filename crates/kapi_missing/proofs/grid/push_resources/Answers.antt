use Rattle.std.proofs.Common.{◌≡◌, ◌∷◌, ◌+◌, ◌&&◌, [], length, arith}
use Rattle.std.proofs.lemmas.Nat.{mul-le}
use Rattle.kapi_missing.proofs.Gridding.{all_placed, place_within, placed_at, placed_more}
use Rattle.kapi_missing.specs.Private.Grid.{placed_items}
use Rattle.kapi_missing.specs.Private.Left.{item}
use Rattle.kapi_missing.specs.Private.Stoppers.{meets}
use Rattle.kapi_missing.proofs.grid.push_resources.Goals as goal

pub overflow_add-row : goal.overflow_add-row
overflow_add-row c =
    let same = c.as_slice-resource-items.ensures.value in
    let less = place_within c.args.grid.now.columns.resources.items c.args.rule.now.resources.items c.loop-resource.resource-index c.resource-item.result c.requires.places.resources
    (rw same at c.loop-resource-test.true) (rw same at c.resource-item.is) in
    let few = c.requires.grid.few.resources in
    let low = c.requires.first in
    omega (arith, less, few, low)

pub overflow_mul-row : goal.overflow_mul-row
overflow_mul-row c =
    let same = c.as_slice-resource-items.ensures.value in
    let less = place_within c.args.grid.now.columns.resources.items c.args.rule.now.resources.items c.loop-resource.resource-index c.resource-item.result c.requires.places.resources
    (rw same at c.loop-resource-test.true) (rw same at c.resource-item.is) in
    let few = c.requires.grid.few.resources in
    let low = c.requires.first in
    let verbs = c.requires.grid.few.verbs in
    let size = c.len.ensures in
    let most = mul-le (c.args.first + c.resource-item.result.place) c.len.result 4095 64 (omega (arith, less, few, low)) (omega (arith, verbs, size)) in
    omega (arith, most)

pub push_verbs-requires-clause-first : goal.push_verbs-requires-clause-first
push_verbs-requires-clause-first c =
    let same = c.as_slice-resource-items.ensures.value in
    let less = place_within c.args.grid.now.columns.resources.items c.args.rule.now.resources.items c.loop-resource.resource-index c.resource-item.result c.requires.places.resources
    (rw same at c.loop-resource-test.true) (rw same at c.resource-item.is) in
    let few = c.requires.grid.few.resources in
    let low = c.requires.first in
    let verbs = c.requires.grid.few.verbs in
    let size = c.len.ensures in
    let most = mul-le (c.args.first + c.resource-item.result.place) c.len.result 4095 64 (omega (arith, less, few, low)) (omega (arith, verbs, size)) in
    omega (arith, most)

pub loop-resource-preserved : goal.loop-resource-preserved
loop-resource-preserved c = λ all test marked.
    let same = c.as_slice-resource-items.ensures.value in
    let within = rw same at c.loop-resource-test.true in
    let is = rw same at c.resource-item.is in
    let size : c.len.result ≡ length c.args.grid.now.columns.verbs.items = (let long = c.len.ensures in omega (arith, long)) in
    placed_more all test (placed_items c.args.rule.now.verbs.items ∷ placed_items c.args.rule.now.names.items ∷ []) c.args.rule.now.resources.items c.loop-resource.resource-index
    c.resource-item.result (item c.args.group ∷ []) c.args.list.now.items c.loop-resource.list.items c.push_verbs.new.list.items within is (c.loop-resource.invariant all test marked)
    (c.in_ok-push_verbs.ensures all (λ s. test s && meets (item c.resource-item.result.part) s)
    (rw size (marked c.resource-item.result.place (item c.resource-item.result.part)
    (placed_at c.args.grid.now.columns.resources.items c.args.rule.now.resources.items c.loop-resource.resource-index c.resource-item.result c.requires.places.resources within is))))

pub returns : goal.returns
returns c = λ all test marked.
    rw (all_placed c.args.rule.now.resources.items c.loop-resource.resource-index (rw c.as_slice-resource-items.ensures.value at c.loop-resource-test.false)) at (c.loop-resource.invariant all test marked)
