use Rattle.std.proofs.Common.{[], ◌∷◌, true}
use Rattle.kapi_missing.specs.Private.Left.{lists_in, meets_every}
use Rattle.kapi_missing.proofs.tree.url_levels.Goals as goal

pub returns-clause-levels : goal.returns-clause-levels
returns-clause-levels c = λ all others index sees.
    let verbs = c.in_ok-verbs.ensures.full all others (λ s. true) index sees in
    let first = c.in_ok-first.ensures.full all others (meets_every (lists_in (c.in_ok-verbs.verbs ∷ []))) index (rw c.as_slice-3.ensures.value verbs) in
    rw (c.in_ok-push.ensures.items, c.new-behind.ensures.items)
    (c.in_ok-first.ensures.rows all others index, first, (c.in_ok-verbs.ensures.rows all others index, verbs, tt))
