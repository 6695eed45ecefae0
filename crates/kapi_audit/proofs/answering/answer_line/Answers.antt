use Rattle.kapi_audit.proofs.Telling.{line_told}
use Rattle.kapi_audit.proofs.answering.answer_line.Goals as goal

pub returns : goal.returns
returns g c = λ first all rest before h.
    line_told c.args.row.now first _ _ all rest c.args.line.now c.make_report-report.result before _ _ c.write_report.result c.make_report-report.ensures c.write_report.ensures.text h
