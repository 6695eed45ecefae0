use Rattle.std.proofs.Common.{arith, ◌≡◌, ◌<◌, ◌+◌, ◌++◌, ◌∷◌, [], ℕ, List, length, get_or, take, add-one, take-suc, sym, ap, subst, ◌∙◌, ⊎_elim}
use Rattle.kapi_paths.specs.Bound.{IsMarked}
use Rattle.kapi_paths.specs.Chains.{Has}
use Rattle.kapi_paths.proofs.Grown.{has_push}
use Rattle.kapi_paths.proofs.bound.mark_each.Goals as goal

pub loop-position-preserved : goal.loop-position-preserved
loop-position-preserved c =
    let all = c.args.positions.now in
    let i = c.loop-position.position-index in
    let x : ℕ = get_or all i 0 in
    let cut : take (i + 1) all ≡ take i all ++ x ∷ [] = ap (λ n. take n all) (add-one i) ∙ take-suc all i 0 c.loop-position-test.true in
    let same : length c.loop-position.marks.items ≡ length c.args.marks.now.items = c.loop-position.invariant.length in
    record {
      kept = λ k h. c.mark.ensures.kept k (c.loop-position.invariant.kept k h);
      marked = λ k h within. ⊎_elim
          (λ old. c.mark.ensures.kept k (c.loop-position.invariant.marked k old within))
          (λ e. subst (λ n. IsMarked c.mark.new.marks.items n) e (c.mark.ensures.marked (subst (λ n. n < length c.loop-position.marks.items) (sym e) (omega (arith, same, within)))))
          (has_push (take i all) x k (subst (λ (l : List ℕ). Has l k) cut h));
      length = c.mark.ensures.length ∙ same;
    }
