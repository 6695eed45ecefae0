use Rattle.std.proofs.Common.{arith, ◌≡◌, ◌<◌, ◌∙◌, length, map, Some, sym, subst, ⊎_elim}
use Rattle.std.specs.List.{slice_get}
use Rattle.std.proofs.lemmas.Bool.{cases_lt}
use Rattle.std.proofs.lemmas.List.{length-map}
use Rattle.std.proofs.lemmas.Option.{same_Some, slice_get_within}
use Rattle.kapi_policy.specs.Decided.{Binding}
use Rattle.kapi_policy.specs.Views.{binding_of}
use Rattle.kapi_paths.specs.Bound.{key_of, positions_at}
use Rattle.kapi_paths.specs.Chains.{Has}
use Rattle.kapi_paths.proofs.Binding.{at_map}
use Rattle.kapi_paths.proofs.bound.Bound.new.Goals as goal

pub loop-position-preserved : goal.loop-position-preserved
loop-position-preserved c = λ i b s below at has.
    let position = c.loop-position.position in
    let ensured = c.in_ok-add_subjects.ensures in
    ⊎_elim
    (λ less. ensured.kept (key_of b.namespace s) i (c.loop-position.invariant i b s less at has))
    (λ last.
    let here : position ≡ i = omega (arith, below, last) in
    let own : binding_of c.index-list-position.result ≡ b = same_Some _ b (sym (at_map binding_of c.args.list.now position c.index-list-position.result c.loop-position-test.true c.index-list-position.is) ∙ subst (λ k. slice_get (map binding_of c.args.list.now) k ≡ Some b) (sym here) at) in
    subst (λ k. Has (positions_at c.add_subjects.new.positions (key_of b.namespace s)) k) here
    (subst (λ (x : Binding). Has (positions_at c.add_subjects.new.positions (key_of x.namespace s)) position) own (ensured.added s (subst (λ (x : Binding). Has x.subjects s) (sym own) has))))
    (cases_lt i position)

pub invariant_of-result : goal.invariant_of-result
invariant_of-result c = λ i b s at has.
    let within : i < length (map binding_of c.args.list.now) = slice_get_within (map binding_of c.args.list.now) i b at in
    let counted : length (map binding_of c.args.list.now) ≡ length c.args.list.now = length-map c.args.list.now binding_of in
    let past = c.loop-position-test.false in
    c.loop-position.invariant i b s (omega (arith, within, counted, past)) at has
