use Rattle.std.proofs.Common.{◌∙◌, Some, ap}
use Rattle.kapi_aggregation.specs.Marks.{all_givers, all_takers, keys_if, Tracked}
use Rattle.kapi_aggregation.proofs.Giving.{anew_covers}
use Rattle.kapi_aggregation.proofs.tracker.Tracker.learn_anew.Goals as goal

pub returns-clause-covers : goal.returns-clause-covers
returns-clause-covers c = λ covers.
    let takers = c.in_ok-takers.ensures ∙ ap all_takers (c.as_slice.ensures.roles ∙ c.in_ok-roles.ensures) in
    let givers = ap Some (c.in_ok-givers.ensures ∙ ap all_givers (c.as_slice-2.ensures.roles ∙ c.in_ok-roles.ensures)) in
    anew_covers c.args.store.now c.args.self.now _ (ap (λ (t : Tracked). t.marks) c.self.view_is) takers (ap keys_if c.replace.ensures.after ∙ givers) covers
