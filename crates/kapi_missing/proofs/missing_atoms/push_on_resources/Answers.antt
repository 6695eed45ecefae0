use Rattle.std.proofs.Common.{◌≡◌, ◌++◌, subst}
use Rattle.std.proofs.lemmas.Result.{on_ok_weaker}
use Rattle.kapi_missing.specs.Private.Left.{left_atoms}
use Rattle.kapi_missing.proofs.missing_atoms.push_on_resources.Goals as goal

pub returns-in_ok-reserve-in-Some : goal.returns-in_ok-reserve-in-Some
returns-in_ok-reserve-in-Some c =
    on_ok_weaker c.push_unmarked.result (λ listed. λ all others index sees marked.
    rw c.in_ok-reserve-in-Some.ensures.items at (subst (λ lists. c.push_unmarked.new.list.items ≡ c.reserve.new.self.items ++ left_atoms all lists) (rw c.in-Some.is at c.in_ok-placed.ensures.lists) (listed all marked)))
    c.push_unmarked.ensures

pub returns-in_ok-levels-in-None : goal.returns-in_ok-levels-in-None
returns-in_ok-levels-in-None c =
    on_ok_weaker c.push_levels.result (λ listed. λ all others index sees marked.
    subst (λ lists. c.push_levels.new.list.items ≡ c.args.list.now.items ++ left_atoms all lists) c.in_ok-levels-in-None.ensures.lists
    (listed all others sees (c.in_ok-levels-in-None.ensures.levels all others index sees)))
    c.push_levels.ensures
