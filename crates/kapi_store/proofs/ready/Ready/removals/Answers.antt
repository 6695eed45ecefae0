use Rattle.std.proofs.Common.{◌≡◌, ◌+◌, suc, List, [], ◌∷◌, ◌++◌, map, length, ap, sym, subst, ◌∙◌, append-nil, arith}
use Rattle.std.proofs.lemmas.Grind.{common_steps}
use Rattle.std.specs.Vec.Iter.{into_iter_items}
use Rattle.std.proofs.lemmas.List.{length-append}
use Rattle.kapi_store.specs.declared.change.Change.{Change}
use Rattle.kapi_store.specs.declared.key.Key.{Key}
use Rattle.kapi_store.specs.Changes.{AreRemovals, Follow, revision_of}
use Rattle.kapi_store.specs.Private.Hidden.{visible}
use Rattle.kapi_store.specs.Plain.{plain_change, trees, removals}
use Rattle.kapi_store.proofs.Windows.{Follow_append}
use Rattle.kapi_store.proofs.Writes.{removals_alone, removals_more, removals_step, removals_write}
use Rattle.kapi_store.proofs.ready.Ready.removals.Goals as goal

pub loop-key-init : goal.loop-key-init
unfolding AreRemovals Follow
loop-key-init c =
    let none : c.in_ok-list.list.items ≡ [] = c.in_ok-list.ensures.items in
    let all : into_iter_items c.into_iter-key-iterator.result ≡ c.args.keys.items = c.into_iter-key-iterator.ensures.into_iter_gives.0 in
    record {
      changes = rw none (ap (removals (trees (visible c.args.hidden.now c.args.slots.now.entries)) c.args.before) all);
      removals = rw none tt;
      numbered = rw none tt;
      revision = rw none (omega arith);
      left = let len : length (into_iter_items c.into_iter-key-iterator.result) ≡ length c.args.keys.items = ap length all in omega arith;
    }

pub loop-key-preserved : goal.loop-key-preserved
unfolding Follow
loop-key-preserved c =
    let k = c.loop-key.invariant in
    let left : List Key = into_iter_items c.next.new.self in
    let all : into_iter_items c.loop-key.key-iterator ≡ c.in-Some.key ∷ left = c.in-Some.ensures.steps.0 in
    let change : Change = c.in_ok-removal.field-0 in
    let items : c.push.new.self.items ≡ c.loop-key.list.items ++ change ∷ [] = c.in_ok-push.ensures.items in
    let more : length (c.loop-key.list.items ++ change ∷ []) ≡ length c.loop-key.list.items + 1 = length-append c.loop-key.list.items (change ∷ []) in
    let len : length c.push.new.self.items ≡ length (c.loop-key.list.items ++ change ∷ []) = ap length items in
    let one : Follow revision_of (c.args.before + length c.loop-key.list.items) (change ∷ []) = (let now : change.revision ≡ c.loop-key.revision + 1 = c.in_ok-removal.ensures.revision in omega arith, tt) in
    let Removed : List Change → Type 0 = λ cs. AreRemovals cs in
    let Numbered : List Change → Type 0 = λ cs. Follow revision_of c.args.before cs in
    record {
      changes = ap (λ cs. map plain_change cs ++ removals (trees (visible c.args.hidden.now c.args.slots.now.entries)) (c.loop-key.revision + 1) left) items
          ∙ removals_step (visible c.args.hidden.now c.args.slots.now.entries) c.loop-key.list.items c.loop-key.revision c.in-Some.key change left c.in_ok-removal.ensures.revision c.in_ok-removal.ensures.key (c.in_ok-removal.ensures.old ∙ c.in_ok-old.ensures) c.in_ok-removal.ensures.new
          ∙ ap (λ ks. map plain_change c.loop-key.list.items ++ removals (trees (visible c.args.hidden.now c.args.slots.now.entries)) c.loop-key.revision ks) (sym all) ∙ k.changes;
      removals = subst Removed (sym items) (removals_more c.loop-key.list.items change k.removals c.in_ok-removal.ensures.new);
      numbered = subst Numbered (sym items) (Follow_append revision_of c.args.before c.loop-key.list.items (change ∷ []) k.numbered one);
      revision = omega arith;
      left = let now : length (into_iter_items c.loop-key.key-iterator) ≡ suc (length left) = ap length all in omega arith;
    }

pub invariant_of-result : goal.invariant_of-result
invariant_of-result c =
    let removed : AreRemovals c.loop-key.list.items = c.loop-key.invariant.removals in
    (removals_write c.loop-key.list.items removed, removals_alone c.loop-key.list.items removed, tt)

pub returns-clause-changes : goal.returns-clause-changes
unfolding removals
returns-clause-changes c =
    let k = c.loop-key.invariant in
    let none : into_iter_items c.loop-key.key-iterator ≡ [] = grind (arith, common_steps) in
    sym (append-nil (map plain_change c.loop-key.list.items))
    ∙ ap (λ ks. map plain_change c.loop-key.list.items ++ removals (trees (visible c.args.hidden.now c.args.slots.now.entries)) c.loop-key.revision ks) (sym none) ∙ k.changes

pub returns-clause-count : goal.returns-clause-count
returns-clause-count c =
    let k = c.loop-key.invariant in
    let none : into_iter_items c.loop-key.key-iterator ≡ [] = grind (arith, common_steps) in
    let len : length (into_iter_items c.loop-key.key-iterator) ≡ 0 = ap length none in
    omega arith
