use Rattle.std.proofs.Common.{◌∙◌}
use Rattle.kapi_audit.proofs.Telling.{all_told}
use Rattle.kapi_audit.proofs.answering.answer_run.Goals as goal

pub returns-clause-told : goal.returns-clause-told
returns-clause-told g c = λ text r.
    all_told c.in_ok-row.row c.args.seat.now _ text _ _ c.answer_all.result (c.in_ok-row.ensures ∙ c.access_reviews.ensures) (c.answer_all.ensures.told text r)
