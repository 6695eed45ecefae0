use Rattle.std.proofs.Common.{◌∙◌, ap, map, refl}
use Rattle.kapi_audit.proofs.ByPolicy.{audited, audited_objects, settled_as, unanswered}
use Rattle.kapi_lines.specs.Lines.{line_of, lines_of}
use Rattle.kapi_loading.specs.Loading.{policy_machine}
use Rattle.kapi_audit.proofs.audit.audit_alone.Goals as goal

pub returns-clause-text : goal.returns-clause-text
returns-clause-text g c =
    let started = c.in_ok-started.started in
    c.with_settled.ensures.text _
    (audited_objects (λ v. v.items) c.answer_seated-answered.result c.args.policy.now c.args.questions.now _
    (ap (map line_of) c.as_slice.ensures.value ∙ c.in_ok-asked.ensures)
    (audited (λ v. v.items) started.core started.desk (policy_machine c.args.policy.now) _ c.answer_seated-answered.result c.in_ok-started.ensures.machine c.answer_seated-answered.ensures))

pub returns-clause-settled : goal.returns-clause-settled
returns-clause-settled g c =
    let started = c.in_ok-started.started in
    settled_as c.with_settled.result (λ a. a.settled) started.core started.desk (policy_machine c.args.policy.now) c.in_ok-started.ensures.machine c.with_settled.ensures.settled

pub returns-in_err-started-clause-text : goal.returns-in_err-started-clause-text
returns-in_err-started-clause-text g c =
    let asked = lines_of c.args.questions.now in
    let result = c.from_residual-in_err-started.result in
    audited_objects (λ a. a.text.items) result c.args.policy.now c.args.questions.now asked refl
    (unanswered (λ a. a.text.items) result c.in_err-started.field-0.0 (policy_machine c.args.policy.now) asked c.from_residual-in_err-started.ensures.1 c.in_err-started.ensures.machine)
