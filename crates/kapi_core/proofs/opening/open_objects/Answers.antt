use Rattle.std.proofs.Common.{List, sym, ◌∙◌, subst}
use Rattle.std.specs.List.{fold}
use Rattle.kapi_core.specs.Opening.{OpeningObject, empty, opening, with_opening}
use Rattle.kapi_core.specs.Private.Openings.{Holds}
use Rattle.kapi_core.proofs.Openings.{opens_without_policy}
use Rattle.kapi_core.proofs.opening.open_objects.Goals as goal

pub returns : goal.returns
unfolding opening
returns g c =
    let content = g.P.Policy.content in
    let start = empty c.args.table c.args.first in
    let P : List OpeningObject → Type 0 = λ os. Holds c.create_all.new.store (content c.create_all.new.policy) c.create_all.new.tracker (fold with_opening start os) in
    subst P c.opening_objects.ensures
    (c.in_ok-create_all.ensures start (c.in_ok-store.ensures.stands, c.requires.empty ∙ sym (opens_without_policy c.args.table c.args.first), tt))
