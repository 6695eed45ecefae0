use Rattle.std.proofs.Common.{◌≡◌, Option, map, sym, ap, ◌∙◌, subst}
use Rattle.kapi_answer.specs.Responses.{changes_data}
use Rattle.kapi_store.specs.Plain.{plain_change}
use Rattle.kapi_store.specs.declared.ready.Ready.{Ready}
use Rattle.kapi_policy.specs.Steps.{after_changes}
use Rattle.kapi_escalation.specs.Reading.{policy_changes}
use Rattle.kapi_core.specs.Private.Writes.{Writes}
use Rattle.kapi_core.proofs.Writes.{CoversWritten, nothing_writes, writes}
use Rattle.kapi_core.proofs.write.make_write.Goals as goal

pub returns-in_default-clause-made : goal.returns-in_default-clause-made
unfolding policy_changes
returns-in_default-clause-made g c = c.nothing.ensures ∙ sym (ap (λ (w : Option Ready). policy_changes (changes_data w)) c.in_default.is)

pub returns-in_default-clause-writes : goal.returns-in_default-clause-writes
returns-in_default-clause-writes g c =
    let content = g.P.Policy.content in
    let P : Option Ready → Type 0 = λ w. Writes c.args.store.now (content c.args.policy.now) c.args.tracker.now c.args.store.now (content c.args.policy.now) c.args.tracker.now (changes_data w) in
    subst P (sym c.in_default.is) (nothing_writes c.args.store.now (content c.args.policy.now) c.args.tracker.now)

pub returns-clause-writes : goal.returns-clause-writes
returns-clause-writes g c =
    let content = g.P.Policy.content in
    let P : Option Ready → Type 0 = λ w. Writes c.args.store.now (content c.args.policy.now) c.args.tracker.now c.commit.new.self (content c.apply_to.new.policy) c.note_write.new.self (changes_data w) in
    let noted = subst (λ cs. CoversWritten c.args.store.now c.args.tracker.now c.note_write.new.self (map plain_change cs)) c.changes.ensures.list c.in_ok-note_write.ensures.covers_after in
    let made : content c.apply_to.new.policy ≡ after_changes (policy_changes (map plain_change c.in-Some.ready)) (content c.args.policy.now) =
    c.in_ok-apply_to.ensures.done
    ∙ ap (λ cs. after_changes cs (content c.args.policy.now)) c.in_ok-changes.ensures in
    subst P (sym c.in-Some.is)
    (writes c.args.store.now c.commit.new.self (content c.args.policy.now) (content c.apply_to.new.policy) c.args.tracker.now c.note_write.new.self (map plain_change c.in-Some.ready) c.commit.ensures.stands made noted)
