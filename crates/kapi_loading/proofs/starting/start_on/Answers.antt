use Rattle.std.proofs.Common.{ap, sym, ◌∙◌}
use Rattle.std.specs.Prelude.{replicate}
use Rattle.kapi_publishing.specs.Boards.{fresh}
use Rattle.kapi_loading.proofs.Begun.{published_first}
use Rattle.kapi_loading.proofs.starting.start_on.Goals as goal

pub returns-in-Ok-clause-machine : goal.returns-in-Ok-clause-machine
returns-in-Ok-clause-machine g c = λ m stands.
    let desk = c.in_ok-desk.ensures.desk in
    let h = c.in-Ok.ensures (fresh c.in_ok-desk.desk) m stands (published_first c.args.core c.in_ok-desk.desk m stands (desk.0 ∙ c.in_ok-opening.ensures ∙ c.policy.ensures) desk.1 desk.2) in
    (h.0, h.1, (h.2, h.3.2))

pub returns-in-Err-clause-machine : goal.returns-in-Err-clause-machine
returns-in-Err-clause-machine g c = λ m stands.
    let desk = c.in_ok-desk.ensures.desk in
    c.in-Err.ensures (fresh c.in_ok-desk.desk) m stands (published_first c.args.core c.in_ok-desk.desk m stands (desk.0 ∙ c.in_ok-opening.ensures ∙ c.policy.ensures) desk.1 desk.2)

pub returns-in-Ok-clause-waiting : goal.returns-in-Ok-clause-waiting
returns-in-Ok-clause-waiting g c = λ m stands.
    let desk = c.in_ok-desk.ensures.desk in
    (c.in-Ok.ensures (fresh c.in_ok-desk.desk) m stands (published_first c.args.core c.in_ok-desk.desk m stands (desk.0 ∙ c.in_ok-opening.ensures ∙ c.policy.ensures) desk.1 desk.2)).3.1

pub returns-in-Ok-clause-seats : goal.returns-in-Ok-clause-seats
returns-in-Ok-clause-seats g c = λ m stands.
    let desk = c.in_ok-desk.ensures.desk in
    c.in_ok-desk.ensures.seats
    ∙ ap (replicate c.args.seats)
    (sym (c.in-Ok.ensures (fresh c.in_ok-desk.desk) m stands (published_first c.args.core c.in_ok-desk.desk m stands (desk.0 ∙ c.in_ok-opening.ensures ∙ c.policy.ensures) desk.1 desk.2)).3.0)
