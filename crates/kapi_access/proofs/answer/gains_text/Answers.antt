use Rattle.std.proofs.Common.{◌∙◌, ap, map, sym}
use Rattle.std.proofs.lemmas.Result.{IfOk-weaker}
use Rattle.kapi_access.specs.Answers.{gain_rows, gains_report, grave_first}
use Rattle.kapi_access.specs.Rows.{gain_row, gained_rule_row}
use Rattle.kapi_access.specs.Views.{gain_of, gained_rule_of}
use Rattle.kapi_access.proofs.Lists.{mapped}
use Rattle.kapi_access.proofs.answer.gains_text.Goals as goal

pub returns-in-Atoms : goal.returns-in-Atoms
returns-in-Atoms c =
    let seen = ap (map gain_of) c.as_slice.ensures.value in
    let rows = mapped gain_row gain_of c.as_slice.result.now _ seen ∙ ap (λ s. gain_rows s (map gain_of c.args.gains.items)) (sym c.in-Atoms.is ∙ c.shown_in.ensures) in
    IfOk-weaker c.gains_report.result _ _ (λ v is. is ∙ ap (gains_report c.args.form) rows) c.gains_report.ensures

pub returns-in_ok-rules-in-Rules : goal.returns-in_ok-rules-in-Rules
returns-in_ok-rules-in-Rules c =
    let seen = ap (map gained_rule_of) c.as_slice-in-Rules.ensures.value ∙ c.in_ok-rules-in-Rules.ensures ∙ ap grave_first c.in_ok-by_rule-in-Rules.ensures in
    let rows =
    mapped gained_rule_row gained_rule_of c.as_slice-in-Rules.result.now _ seen ∙ ap (λ s. gain_rows s (map gain_of c.args.gains.items)) (sym c.in-Rules.is ∙ c.shown_in.ensures) in
    IfOk-weaker c.gains_report-in-Rules.result _ _ (λ v is. is ∙ ap (gains_report c.args.form) rows) c.gains_report-in-Rules.ensures
