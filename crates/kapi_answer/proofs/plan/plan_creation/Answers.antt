use Rattle.std.proofs.Common.{◌≡◌, None, Result, sym, ap, ◌∙◌, subst}
use Rattle.kapi_text.specs.ResultIs.{ResultIs, ◌>>=◌}
use Rattle.kapi_reply.specs.Refusals.{refused_by}
use Rattle.kapi_reply.specs.declared.refusal.Refused.{Refused}
use Rattle.kapi_store.specs.Plain.{plain_of}
use Rattle.kapi_store.proofs.Places.{nothing_stands}
use Rattle.kapi_answer.specs.Answer.{Plan, planned_creation, to_be_created}
use Rattle.kapi_answer.specs.Responses.{new_data, plan_data, task_data}
use Rattle.kapi_answer.proofs.plan.plan_creation.Goals as goal

-- a new object has a free place, so none stands there
pub returns-in_ok-new-in-None-clause-gives : goal.returns-in_ok-new-in-None-clause-gives
unfolding planned_creation
returns-in_ok-new-in-None-clause-gives g c =
    let s = plain_of c.args.store.now in
    let t = task_data (g.P.Policy.content c.args.policy.now) c.args.task in
    let P : Result Plan Refused → Type 0 = λ r. ResultIs refused_by plan_data c.plan_create.result r in
    let kept : to_be_created s t (new_data c.in_ok-new-in-None.new) ≡ planned_creation None s t
    = sym (ap (λ r. r >>= to_be_created s t) c.in_ok-new-in-None.ensures.gives) in
    subst P (kept ∙ ap (λ o. planned_creation o s t) (sym c.in-None.is ∙ c.review_kind.ensures))
    (c.plan_create.ensures.gives s (nothing_stands s c.in_ok-new-in-None.new.key c.in_ok-new-in-None.ensures.free))
