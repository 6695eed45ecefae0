use Rattle.std.proofs.Common.{arith, ◌≡◌, ◌<◌, ◌+◌, ◌++◌, ◌∷◌, ◌∙◌, ℕ, [], List, length, map, take, take-suc, take_all, add-one, sym, ap, subst, ⊎_elim}
use Rattle.std.proofs.lemmas.List.{length-map}
use Rattle.std.proofs.lemmas.Option.{slice_get_within}
use Rattle.kapi_model.specs.Subjects.{subject_matches}
use Rattle.kapi_policy.specs.Views.{binding_of}
use Rattle.kapi_paths.specs.Chains.{Has}
use Rattle.kapi_paths.specs.Steps.{node}
use Rattle.kapi_paths.specs.declared.node.NodeKind.TheVariants as kind
use Rattle.kapi_paths.proofs.Binding.{matched_key, some_has}
use Rattle.kapi_paths.proofs.Grown.{has_push}
use Rattle.kapi_paths.proofs.bound.Bound.marks.Goals as goal

pub loop-group-init : goal.loop-group-init
loop-group-init c = record {
  kept = λ i h. h;
  marked = λ i b s g at has none. absurd none;
  length =
      let marked = c.mark_under.ensures.length in
      let made = c.in_ok-marks.ensures.len in
      let ok = c.in_ok-marks.marks.ok in
      let mapped : length (map binding_of c.self.inside.list.now) ≡ length c.self.inside.list.now = length-map c.self.inside.list.now binding_of in
      let own : length (map binding_of c.self.inside.list.now) ≡ length c.args.self.now = ap length c.self.view_is in
      omega (arith, marked, made, ok, mapped, own);
}

pub loop-group-preserved : goal.loop-group-preserved
loop-group-preserved c =
    let all : List (List ℕ) = c.as_slice-group-items.result.now in
    let i = c.loop-group.group-index in
    let x : List ℕ = c.group-item.result in
    let cut : take (i + 1) all ≡ take i all ++ x ∷ [] = ap (λ n. take n all) (add-one i) ∙ take-suc all i x c.loop-group-test.true ∙ ap (λ y. take i all ++ y ∷ []) (sym c.group-item.is) in
    let counted : length c.loop-group.marks.items ≡ length c.args.self.now = c.loop-group.invariant.length in
    record {
      kept = λ k h. c.mark_under-in-loop-group.ensures.kept k (c.loop-group.invariant.kept k h);
      marked = λ k b s g at has there key. ⊎_elim
          (λ old. c.mark_under-in-loop-group.ensures.kept k (c.loop-group.invariant.marked k b s g at has old key))
          (λ e.
          let within : k < length c.args.self.now = slice_get_within c.args.self.now k b at in
          c.mark_under-in-loop-group.ensures.marked b s k at has (key ∙ sym (c.in_ok-key-2.ensures ∙ ap (node kind.Group []) (c.as_str-in-loop-group.ensures ∙ e))) (omega (arith, counted, within)))
          (has_push (take i all) x g (subst (λ (l : List (List ℕ)). Has l g) cut there));
      length = c.mark_under-in-loop-group.ensures.length ∙ counted;
    }

pub returns : goal.returns
returns c = record {
  marked = λ i b at matches.
      let found = some_has (λ s. subject_matches s b.namespace c.args.identity.now) b.subjects matches in
      let s = found.0 in
      let within : i < length c.args.self.now = slice_get_within c.args.self.now i b at in
      let made = c.in_ok-marks.ensures.len in
      let ok = c.in_ok-marks.marks.ok in
      let mapped : length (map binding_of c.self.inside.list.now) ≡ length c.self.inside.list.now = length-map c.self.inside.list.now binding_of in
      let own : length (map binding_of c.self.inside.list.now) ≡ length c.args.self.now = ap length c.self.view_is in
      let groups = c.as_slice-group-items.result.now in
      ⊎_elim
      (λ user. c.loop-group.invariant.kept i
      (c.mark_under.ensures.marked b s i at found.1 (user ∙ sym (c.in_ok-key.ensures ∙ ap (node kind.User []) c.as_str.ensures)) (omega (arith, made, ok, mapped, own, within))))
      (λ g. c.loop-group.invariant.marked i b s g.0 at found.1
      (subst (λ (l : List (List ℕ)). Has l g.0) (sym (take_all c.loop-group.group-index groups c.loop-group-test.false)) (subst (λ (l : List (List ℕ)). Has l g.0) (sym c.as_slice-group-items.ensures) g.1)) g.2)
      (matched_key s b.namespace c.args.identity.now found.2);
}
