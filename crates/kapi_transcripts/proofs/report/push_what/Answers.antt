use Rattle.std.proofs.Common.{◌++◌, ap, append_assoc, sym, ◌∙◌}
use Rattle.kapi_transcripts.proofs.Told.{map_ok}
use Rattle.kapi_transcripts.specs.Reports as reports
use Rattle.kapi_transcripts.proofs.report.push_what.Goals as goal

pub returns-in_ok-push_number-in-NotLoaded : goal.returns-in_ok-push_number-in-NotLoaded
returns-in_ok-push_number-in-NotLoaded c =
    map_ok c.push_reason-in-NotLoaded.result _ _ (λ e.
    e ∙ ap (λ t. t ++ reports.reason_text c.in-NotLoaded.reason) c.in_ok-push_number-in-NotLoaded.ensures ∙ append_assoc c.args.text.now.items _ _
    ∙ ap (λ w. c.args.text.now.items ++ reports.what_text c.args.lines.now w) (sym c.in-NotLoaded.is)) c.push_reason-in-NotLoaded.ensures
