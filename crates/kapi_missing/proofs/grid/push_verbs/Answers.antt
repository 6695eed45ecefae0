use Rattle.std.proofs.Common.{◌∷◌, ◌&&◌, [], arith}
use Rattle.kapi_missing.proofs.Gridding.{all_placed, place_within, placed_at, placed_more}
use Rattle.kapi_missing.specs.Private.Grid.{placed_items}
use Rattle.kapi_missing.specs.Private.Left.{item}
use Rattle.kapi_missing.specs.Private.Stoppers.{meets}
use Rattle.kapi_missing.proofs.grid.push_verbs.Goals as goal

pub overflow_add-first : goal.overflow_add-first
overflow_add-first c =
    let same = c.as_slice-verb-items.ensures.value in
    let less = place_within c.args.grid.now.columns.verbs.items c.args.rule.now.verbs.items c.loop-verb.verb-index c.verb-item.result c.requires.places.verbs (rw same at c.loop-verb-test.true) (rw same at c.verb-item.is) in
    let few = c.requires.grid.few.verbs in
    let low = c.requires.first in
    omega (arith, less, few, low)

pub loop-verb-preserved : goal.loop-verb-preserved
loop-verb-preserved c = λ all test marked.
    let same = c.as_slice-verb-items.ensures.value in
    let within = rw same at c.loop-verb-test.true in
    let is = rw same at c.verb-item.is in
    placed_more all test (placed_items c.args.rule.now.names.items ∷ []) c.args.rule.now.verbs.items c.loop-verb.verb-index c.verb-item.result (item c.args.group ∷ item c.args.resource ∷ [])
    c.args.list.now.items c.loop-verb.list.items c.push_names.new.list.items within is (c.loop-verb.invariant all test marked)
    (rw c.as_slice-names.ensures.value at (c.in_ok-push_names.ensures all (λ s. test s && meets (item c.verb-item.result.part) s)
    (rw (c.word_at-word.ensures, c.as_slice.ensures.value) (marked c.verb-item.result.place (item c.verb-item.result.part)
    (placed_at c.args.grid.now.columns.verbs.items c.args.rule.now.verbs.items c.loop-verb.verb-index c.verb-item.result c.requires.places.verbs within is)))))

pub returns : goal.returns
returns c = λ all test marked. rw (all_placed c.args.rule.now.verbs.items c.loop-verb.verb-index (rw c.as_slice-verb-items.ensures.value at c.loop-verb-test.false)) at (c.loop-verb.invariant all test marked)
