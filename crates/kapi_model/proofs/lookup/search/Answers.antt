use Rattle.std.proofs.Common.{rules, length, subst, sym, ap, Some, Ok, Err, ◌∙◌}
use Rattle.std.specs.Cmp.Lexicographic.{slice_cmp}
use Rattle.std.specs.List.Sorted.{IsBinarySearchResult, IsSearchInRange}
use Rattle.std.specs.Ordering.{nat_cmp}
use Rattle.std.proofs.lemmas.Fn.{always_returns_same}
use Rattle.kapi_model.proofs.Ordered.{found_in_order}
use Rattle.kapi_model.proofs.lookup.search.Goals as goal

pub returns-in-Ok : goal.returns-in-Ok
returns-in-Ok c =
    let by_key = c.binary_search_by.ensures.position (λ l. slice_cmp nat_cmp l.key c.args.key.now) (always_returns_same _ _ _ (λ a r f called. search rules)) in
    let found = found_in_order c.args.labels.now c.args.key.now (Ok c.in-Ok.place) c.requires
    (subst (λ r. IsSearchInRange r (length c.args.labels.now)) c.in-Ok.is c.binary_search_by.ensures.bound)
    (subst (λ r. IsBinarySearchResult (λ l. slice_cmp nat_cmp l.key c.args.key.now) c.args.labels.now r) c.in-Ok.is by_key) in
    ap Some c.as_str.ensures ∙ sym (found c.index-labels-place.result)

pub returns-in-Err : goal.returns-in-Err
returns-in-Err c =
    let by_key = c.binary_search_by.ensures.position (λ l. slice_cmp nat_cmp l.key c.args.key.now) (always_returns_same _ _ _ (λ a r f called. search rules)) in
    sym
    (found_in_order c.args.labels.now c.args.key.now (Err c.in-Err._gap) c.requires
    (subst (λ r. IsSearchInRange r (length c.args.labels.now)) c.in-Err.is c.binary_search_by.ensures.bound)
    (subst (λ r. IsBinarySearchResult (λ l. slice_cmp nat_cmp l.key c.args.key.now) c.args.labels.now r) c.in-Err.is by_key))
