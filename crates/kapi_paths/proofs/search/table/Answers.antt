use Rattle.std.proofs.Common.{◌≡◌, ◌+◌, ◌<◌, ℕ, List, [], length, ap, ◌∙◌, arith}
use Rattle.std.specs.List.{fold}
use Rattle.kapi_paths.specs.Levels.{State, passed, vacant}
use Rattle.kapi_paths.proofs.Levelled.{after, levelled_more, levelled_start, none_left, room_more, room_start, searched, some_left}
use Rattle.kapi_paths.proofs.search.table.Goals as goal

pub levels-init : goal.levels-init
levels-init c = rw c.in_ok-front.ensures (record {
  levelled = levelled_start c.args.graph.now c.args.from c.requires.from;
  room = let r = room_start (length c.args.graph.now) c.args.from c.requires.from in omega (arith, r);
})

after_is : (c : goal.After-drop-level-in-levels) → c.pass_level.new.self ≡ after c.args.graph.now c.levels.steps c.levels.front
after_is c =
    let f = passed c.args.graph.now (c.levels.steps + 1) in
    c.in_ok-pass_level.ensures
    ∙ (ap (λ (s : State). fold f s c.as_slice.result.now) c.take_next-level.ensures.left
    ∙ ap (λ (ns : List ℕ). fold f (record { table = c.levels.front.table; next = [] }) ns) (c.as_slice.ensures.value ∙ c.take_next-level.ensures.level))

pub levels-preserved : goal.levels-preserved
levels-preserved c =
    let some = some_left (length c.levels.front.next) c.is_last.result c.is_last.ensures c.levels-test.true in
    let left = room_more c.args.graph.now c.levels.steps c.levels.front in
    let room = c.levels.invariant.room in
    rw (after_is c) (record {
      levelled = levelled_more c.args.graph.now c.args.from c.levels.steps c.levels.front c.requires.inside c.levels.invariant.levelled;
      room = omega (arith, some, left, room);
    })

pub levels-smaller : goal.levels-smaller
levels-smaller c =
    let some = some_left (length c.levels.front.next) c.is_last.result c.is_last.ensures c.levels-test.true in
    let left = room_more c.args.graph.now c.levels.steps c.levels.front in
    let less : vacant c.pass_level.new.self.table + length c.pass_level.new.self.next < vacant c.levels.front.table + length c.levels.front.next =
    rw (after_is c) (omega (arith, some, left)) in
    less

pub returns : goal.returns
returns c = rw c.into_table.ensures
    (searched c.args.graph.now c.args.from c.levels.steps c.levels.front c.levels.invariant.levelled (none_left c.levels.front.next c.is_last.result c.is_last.ensures c.levels-test.false))
