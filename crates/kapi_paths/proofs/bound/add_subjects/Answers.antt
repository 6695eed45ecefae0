use Rattle.std.proofs.Common.{◌≡◌, ◌+◌, ◌++◌, ◌∷◌, ◌∙◌, [], List, take, take-suc, add-one, sym, ap, subst, ⊎_elim}
use Rattle.kapi_model.specs.declared.subject.Subject.{Subject}
use Rattle.kapi_paths.specs.Bound.{key_of, positions_at}
use Rattle.kapi_paths.specs.Chains.{Has}
use Rattle.kapi_paths.proofs.Grown.{has_push}
use Rattle.kapi_paths.proofs.bound.add_subjects.Goals as goal

pub loop-subject-preserved : goal.loop-subject-preserved
loop-subject-preserved c =
    let all : List Subject = c.args.binding.now.subjects.now in
    let i = c.loop-subject.subject-index in
    let x : Subject = c.subject-item.result in
    let cut : take (i + 1) all ≡ take i all ++ x ∷ [] = ap (λ n. take n all) (add-one i) ∙ take-suc all i x c.loop-subject-test.true ∙ ap (λ y. take i all ++ y ∷ []) (sym c.subject-item.is) in
    record {
      kept = λ k n h. c.in_ok-add.ensures.kept k n (c.loop-subject.invariant.kept k n h);
      added = λ s h. ⊎_elim
          (λ old. c.in_ok-add.ensures.kept (key_of c.args.binding.now.namespace.now s) c.args.position (c.loop-subject.invariant.added s old))
          (λ e. subst (λ (y : Subject). Has (positions_at c.add.new.positions (key_of c.args.binding.now.namespace.now y)) c.args.position) e
          (subst (λ k. Has (positions_at c.add.new.positions k) c.args.position) c.in_ok-key.ensures c.in_ok-add.ensures.added))
          (has_push (take i all) x s (subst (λ (l : List Subject). Has l s) cut h));
    }
