use Rattle.std.proofs.Common.{◌∙◌, sym}
use Rattle.kapi_audit.proofs.Joined.{joined_if}
use Rattle.kapi_audit.proofs.threads.answer_in_threads.Goals as goal

pub returns-in-Ok : goal.returns-in-Ok
returns-in-Ok g c = λ seat are.
    joined_if (λ v. v.items) c.args.row.now seat c.args.others c.args.lines.now c.args.readers.items c.in-Ok.results.items c.finished.result are (sym c.in-Ok.results.ok.0 ∙ c.in-Ok.ensures.len ∙ c.args.readers.ok.0)
    (λ i d below. let k = (c.in-Ok.ensures.each i d below).1 in (k.job, k.job_is, k.call.met)) c.finished.ensures
