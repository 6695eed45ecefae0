use Rattle.std.proofs.Common.{◌∙◌, ◌++◌, ap, false, map, refl, sym, true}
use Rattle.std.proofs.lemmas.Result.{IfOk-weaker}
use Rattle.kapi_access.specs.Rights.{first_rows, right_row, rights_report}
use Rattle.kapi_access.proofs.Lists.{mapped}
use Rattle.kapi_access.proofs.rights.rights_text.Goals as goal

pub returns-then-master : goal.returns-then-master
returns-then-master c =
    let rows = mapped right_row (λ r. (r.at.now, r.by.now)) c.args.rows.now _ refl in
    IfOk-weaker c.report.result _ _
    (λ v is. is ∙ ap (λ l. rights_report c.args.form (first_rows true ++ l)) rows ∙ ap (λ m. rights_report c.args.form (first_rows m ++ map right_row (map (λ r. (r.at.now, r.by.now)) c.args.rows.now))) (sym c.if-master.true)) c.report.ensures

pub returns : goal.returns
returns c =
    let rows = mapped right_row (λ r. (r.at.now, r.by.now)) c.args.rows.now _ refl in
    IfOk-weaker c.report-2.result _ _
    (λ v is. is ∙ ap (λ l. rights_report c.args.form (first_rows false ++ l)) rows ∙ ap (λ m. rights_report c.args.form (first_rows m ++ map right_row (map (λ r. (r.at.now, r.by.now)) c.args.rows.now))) (sym c.if-master.false)) c.report-2.ensures
