use Rattle.std.proofs.Common.{[], ◌∷◌, true}
use Rattle.kapi_missing.specs.Private.Left.{lists_in, meets_every}
use Rattle.kapi_missing.proofs.tree.resource_levels.Goals as goal

pub returns-clause-levels : goal.returns-clause-levels
returns-clause-levels c = λ all others index sees.
    let names = c.in_ok-names-2.ensures.full all others (λ s. true) index sees in
    let verbs = c.in_ok-verbs.ensures.full all others (meets_every (lists_in (c.in_ok-names-2.names ∷ []))) index (rw c.as_slice-3.ensures.value names) in
    let resources = c.in_ok-resources.ensures.full all others (meets_every (lists_in (c.in_ok-verbs.verbs ∷ c.in_ok-names-2.names ∷ []))) index (rw c.as_slice-5.ensures.value verbs) in
    let first = c.in_ok-first.ensures.full all others (meets_every (lists_in (c.in_ok-resources.resources ∷ c.in_ok-verbs.verbs ∷ c.in_ok-names-2.names ∷ []))) index (rw c.as_slice-7.ensures.value resources) in
    rw (c.in_ok-push-3.ensures.items, c.in_ok-push-2.ensures.items, c.in_ok-push.ensures.items, c.new-behind.ensures.items) (
      c.in_ok-first.ensures.rows all others index,
      first,
      (
        c.in_ok-resources.ensures.rows all others index,
        resources,
        (c.in_ok-verbs.ensures.rows all others index, verbs, (c.in_ok-names-2.ensures.rows all others index, names, tt)),
      ),
    )
