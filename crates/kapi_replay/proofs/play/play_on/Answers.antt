use Rattle.std.proofs.Common.{[], Some, Err, ap, refl, ◌∙◌}
use Rattle.kapi_core.specs.Machine.{with_rechecks}
use Rattle.kapi_replay.specs.Failures.{script_text}
use Rattle.kapi_replay.proofs.Played.{compared, refused}
use Rattle.kapi_replay.proofs.play.play_on.Goals as goal

pub returns-in-Ok : goal.returns-in-Ok
returns-in-Ok c = λ m stands.
    compared (λ v. v.items) c.differences.result (with_rechecks c.args.case.now.rechecks m) c.args.case.now _ _ _ (c.as_slice-reader.ensures.value ∙ c.in_ok-script.ensures ∙ ap script_text c.as_slice.ensures)
    (c.in-Ok.ensures.played (with_rechecks c.args.case.now.rechecks m) _ [] (c.recheck_watches.ensures.stands m stands) refl (ap Some c.new-answers.ensures.items)) c.as_slice-in-Ok.ensures.value c.differences.ensures

pub returns-in-Err-BadLine : goal.returns-in-Err-BadLine
returns-in-Err-BadLine c = λ m stands.
    refused (λ v. v.items) c.bad_line.result (with_rechecks c.args.case.now.rechecks m) c.args.case.now _ _ _ (c.as_slice-reader.ensures.value ∙ c.in_ok-script.ensures ∙ ap script_text c.as_slice.ensures)
    (c.in-Err-BadLine.ensures.bad (with_rechecks c.args.case.now.rechecks m) _ [] c.in-Err-BadLine.number c.in-Err-BadLine.reason (c.recheck_watches.ensures.stands m stands) refl (ap Some c.new-answers.ensures.items) (ap Err c.in-Err-BadLine.field-0-is)) c.bad_line.ensures
