use Rattle.std.proofs.Common.{◌≡◌, ◌+◌, ◌++◌, ◌∷◌, [], List, take, ap, sym, ◌∙◌, subst}
use Rattle.std.proofs.lemmas.List.{take_more}
use Rattle.kapi_core.specs.declared.event.Answer.{Answer}
use Rattle.kapi_core.specs.declared.event.Event.{Event}
use Rattle.kapi_core.proofs.Gains.{ran_gains}
use Rattle.kapi_core.proofs.Rechecking.{rechecks_watches}
use Rattle.kapi_core.proofs.Runs.{Ran, ran_kept, ran_nothing, ran_push}
use Rattle.kapi_core.proofs.machine.Core.run.Goals as goal

pub loop-event-init : goal.loop-event-init
loop-event-init g c =
    let P : List Answer → Type 0 = λ told. Ran c.args.self.now c.args.self.now told [] in
    subst P (sym c.new-answers.ensures.items) (ran_nothing c.args.self.now)

pub loop-event-preserved : goal.loop-event-preserved
loop-event-preserved g c =
    let events = c.args.events.now in
    let i = c.loop-event.event-index in
    let e = c.event-item.result in
    let more : take (i + 1) events ≡ take i events ++ e ∷ [] =
    take_more events i e c.loop-event-test.true ∙ ap (λ x. take i events ++ x ∷ []) (sym c.event-item.is) in
    let P : List Event → Type 0 = λ es. Ran c.args.self.now c.step_into.new.self c.step_into.new.answers.items es in
    subst P (sym more)
    (ran_push c.args.self.now c.loop-event.self c.step_into.new.self c.loop-event.answers.items c.step_into.new.answers.items (take i events) e
    c.loop-event.invariant c.in_default.ensures.made)

pub returns-in-Err-clause-gains : goal.returns-in-Err-clause-gains
returns-in-Err-clause-gains g c =
    let before = c.args.self.now in
    let made = take c.loop-event.event-index c.args.events.now in
    ran_gains before c.step_into.new.self c.loop-event.answers.items c.new.result c.loop-event.event-index c.args.events.now
    (ran_kept before c.loop-event.self c.step_into.new.self c.loop-event.answers.items made c.loop-event.invariant c.in-Err.ensures.kept)
    (c.new.ensures ∙ c.in-Err.ensures.same)

pub returns-clause-gains : goal.returns-clause-gains
returns-clause-gains g c =
    ran_gains c.args.self.now c.loop-event.self c.loop-event.answers.items c.new-2.result c.loop-event.event-index c.args.events.now c.loop-event.invariant
    c.new-2.ensures

pub returns-in-Err-clause-rechecked : goal.returns-in-Err-clause-rechecked
returns-in-Err-clause-rechecked g c = λ m h. rechecks_watches m _

pub returns-clause-rechecked : goal.returns-clause-rechecked
returns-clause-rechecked g c = λ m h. rechecks_watches m _
