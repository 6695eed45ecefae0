use Rattle.std.proofs.Common.{◌≡◌, suc, ◌+◌, ◌++◌, ◌∷◌, [], List, ◌∙◌, ap, sym, subst, length, append_assoc, append-nil, arith}
use Rattle.std.proofs.lemmas.Grind.{common_steps}
use Rattle.std.specs.Vec.Iter.{into_iter_items}
use Rattle.kapi_store.specs.declared.change.Change.{Change}
use Rattle.kapi_store.specs.Limits.{window_limit}
use Rattle.kapi_store.specs.Changes.{placed_all, left_by, last_of, AreRemovals, IsWrite}
use Rattle.kapi_store.specs.State.{objects, Fits}
use Rattle.kapi_store.proofs.Writes.{removals_write}
use Rattle.kapi_store.proofs.Stores.{fits_first, fits_rest, written_stands}
use Rattle.kapi_store.proofs.Windows.{last_last, last_within}
use Rattle.kapi_store.proofs.store.Store.commit.Goals as goal

pub make-requires-clause-fits : goal.make-requires-clause-fits
make-requires-clause-fits c =
    let P : List Change → Type 0 = λ cs. Fits c.loop-change.self cs in
    fits_first _ c.in-Some.change (into_iter_items c.next.new.self) (subst P c.in-Some.ensures.steps.0 c.loop-change.invariant.fits)

pub make-requires-clause-kept : goal.make-requires-clause-kept
unfolding IsWrite
make-requires-clause-kept c =
    let P : List Change → Type 0 = λ cs. IsWrite c.loop-change.kept cs in
    c.take.ensures.value ∙ (subst P c.in-Some.ensures.steps.0 c.loop-change.invariant.write).0

pub loop-change-preserved : goal.loop-change-preserved
unfolding IsWrite placed_all
loop-change-preserved c =
    let k = c.loop-change.invariant in
    let m = c.make.ensures in
    let left : List Change = into_iter_items c.next.new.self in
    let all : into_iter_items c.loop-change.change-iterator ≡ c.in-Some.change ∷ left = c.in-Some.ensures.steps.0 in
    let Writes : List Change → Type 0 = λ cs. IsWrite c.loop-change.kept cs in
    let Fitting : List Change → Type 0 = λ cs. Fits c.loop-change.self cs in
    let removals : AreRemovals left = (subst Writes all k.write).1 in
    record {
      write = rw c.take.ensures.after (removals_write left removals);
      fits = fits_rest _ _ c.in-Some.change left (subst Fitting all k.fits) removals m.revision;
      objects = ap (placed_all (left_by left)) m.objects ∙ ap (λ cs. placed_all (left_by cs) (objects c.loop-change.self)) (sym all) ∙ k.objects;
      revision = let len : length (into_iter_items c.loop-change.change-iterator) ≡ suc (length left) = ap length all in omega arith;
      window = ap (λ cs. last_of window_limit (cs ++ left)) m.window ∙ last_last window_limit (c.loop-change.self.window ++ c.in-Some.change ∷ []) left
          ∙ ap (last_of window_limit) (append_assoc c.loop-change.self.window (c.in-Some.change ∷ []) left) ∙ ap (λ cs. last_of window_limit (c.loop-change.self.window ++ cs)) (sym all) ∙ k.window;
      kept = λ _. last_within window_limit (c.loop-change.self.window ++ c.in-Some.change ∷ []) c.make.new.self.window m.window;
      table = m.table ∙ k.table;
      first = m.first ∙ k.first;
    }

pub returns : goal.returns
unfolding placed_all
returns c =
    let k = c.loop-change.invariant in
    let none : into_iter_items c.loop-change.change-iterator ≡ [] = grind (arith, common_steps) in
    let len : length (into_iter_items c.loop-change.change-iterator) ≡ 0 = ap length none in
    let objs : objects c.loop-change.self ≡ placed_all (left_by c.args.ready) (objects c.args.self.now)
    = ap (λ cs. placed_all (left_by cs) (objects c.loop-change.self)) (sym none) ∙ k.objects in
    let revision : c.loop-change.self.revision ≡ c.args.self.now.revision + length c.args.ready = omega arith in
    let last : last_of window_limit c.loop-change.self.window ≡ last_of window_limit (c.args.self.now.window ++ c.args.ready)
    = ap (last_of window_limit) (sym (append-nil c.loop-change.self.window)) ∙ ap (λ cs. last_of window_limit (c.loop-change.self.window ++ cs)) (sym none) ∙ k.window in
    record {
      objects = objs;
      revision = revision;
      table = k.table;
      first = k.first;
      stands = written_stands c.args.self.now c.loop-change.self c.args.ready objs revision last k.kept k.table k.first c.requires.next;
    }
