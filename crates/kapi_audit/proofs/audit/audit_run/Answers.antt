use Rattle.std.proofs.Common.{◌∙◌, ap, map, refl}
use Rattle.kapi_audit.proofs.ByPolicy.{audited, audited_files, unanswered}
use Rattle.kapi_lines.specs.Lines.{line_of, lines_of}
use Rattle.kapi_loading.specs.Loading.{machine_of}
use Rattle.kapi_audit.proofs.audit.audit_run.Goals as goal

pub returns : goal.returns
returns g c =
    let started = c.in_ok-started.started in
    audited_files (λ v. v.items) c.answer_seated.result c.args.table.now c.args.policy.now c.args.questions.now _
    (ap (map line_of) c.as_slice.ensures.value ∙ c.in_ok-asked.ensures)
    (audited (λ v. v.items) started.core started.desk (machine_of c.args.table.now c.args.policy.now) _ c.answer_seated.result c.in_ok-started.ensures.machine c.answer_seated.ensures)

pub returns-in_err-started : goal.returns-in_err-started
returns-in_err-started g c =
    let asked = lines_of c.args.questions.now in
    let result = c.from_residual-in_err-started.result in
    audited_files (λ v. v.items) result c.args.table.now c.args.policy.now c.args.questions.now asked refl
    (unanswered (λ v. v.items) result c.in_err-started.field-0.0 (machine_of c.args.table.now c.args.policy.now) asked c.from_residual-in_err-started.ensures.1 c.in_err-started.ensures.machine)
