use Rattle.std.proofs.Common.{◌∙◌, ap, map}
use Rattle.std.proofs.lemmas.Result.{IfOk-weaker}
use Rattle.kapi_access.specs.Answers.{ways_report}
use Rattle.kapi_access.specs.Rows.{way_row}
use Rattle.kapi_access.specs.Views.{way_of}
use Rattle.kapi_access.proofs.Lists.{mapped}
use Rattle.kapi_access.proofs.answer.ways_text.Goals as goal

pub returns : goal.returns
returns c =
    let rows = mapped way_row way_of c.as_slice.result.now _ (ap (map way_of) c.as_slice.ensures.value ∙ c.in_ok-others.ensures) in
    IfOk-weaker c.report.result _ _ (λ v is. is ∙ ap (ways_report c.args.form) rows) c.report.ensures
