use Rattle.std.proofs.Common.{◌≡◌, ◌+◌, ◌++◌, ◌∷◌, ◌∙◌, [], List, take, take-suc, add-one, get_or, false, Some, sym, ap, subst}
use Rattle.std.specs.List.{flat_map, slice_get}
use Rattle.std.proofs.lemmas.List.{append_assoc, append-nil}
use Rattle.std.proofs.lemmas.Option.{get_or_from_slice_get, slice_get_within}
use Rattle.kapi_policy.specs.Decided.{Binding}
use Rattle.kapi_policy.specs.Views.{binding_of}
use Rattle.kapi_policy.proofs.Firsts.{flat_map_append}
use Rattle.kapi_paths.specs.Steps as steps
use Rattle.kapi_paths.proofs.Binding.{at_map}
use Rattle.kapi_paths.proofs.steps.push_all_bound.Goals as goal

pub push_if_marked-requires : goal.push_if_marked-requires
push_if_marked-requires c = λ matches.
    let at = at_map binding_of c.list-binding-items.result.now c.loop-position.position c.binding-item.result c.loop-position-test.true c.binding-item.is in
    c.is_marked-may_be.ensures ∙ ap (λ marks. get_or marks c.loop-position.position false) c.as_slice.ensures.value
    ∙ c.in_ok-marks.ensures.marked c.loop-position.position (binding_of c.binding-item.result) (subst (λ (l : List Binding). slice_get l c.loop-position.position ≡ Some (binding_of c.binding-item.result)) c.list-binding-items.ensures at) matches

pub loop-position-preserved : goal.loop-position-preserved
loop-position-preserved c =
    let all : List Binding = c.args.bindings.now in
    let i = c.loop-position.position in
    let x : Binding = binding_of c.binding-item.result in
    let bound = steps.bound c.args.identity.now in
    let at : slice_get all i ≡ Some x = subst (λ (l : List Binding). slice_get l i ≡ Some x) c.list-binding-items.ensures
    (at_map binding_of c.list-binding-items.result.now i c.binding-item.result c.loop-position-test.true c.binding-item.is) in
    let cut : take (i + 1) all ≡ take i all ++ x ∷ [] = ap (λ n. take n all) (add-one i) ∙ take-suc all i x (slice_get_within all i x at) ∙ ap (λ y. take i all ++ y ∷ []) (get_or_from_slice_get all i x x at) in
    let more : flat_map bound (take (i + 1) all) ≡ flat_map bound (take i all) ++ bound x = ap (flat_map bound) cut ∙ flat_map_append bound (take i all) (x ∷ []) ∙ ap (λ l. flat_map bound (take i all) ++ l) (append-nil (bound x)) in
    c.in_ok-push_if_marked.ensures ∙ ap (λ l. l ++ bound x) c.loop-position.invariant ∙ append_assoc c.args.list.now.items (flat_map bound (take i all)) (bound x) ∙ ap (λ l. c.args.list.now.items ++ l) (sym more)
