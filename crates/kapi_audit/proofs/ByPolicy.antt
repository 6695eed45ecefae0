-- The answers by a policy that was published.
use Rattle.std.proofs.Common.{◌≡◌, ℕ, Bool, List, Result, Ok, Err, IfOk, IsErrAnd, sym, ap, ◌∙◌, subst}
use Rattle.kapi_text.specs.ResultIs.{Fails, ResultIs}
use Rattle.kapi_audit.specs.Answers.{answer_of, answered_by, answers, answers_alone, answers_on}
use Rattle.kapi_audit.specs.Faults.{AuditError, model_of_fault, unloaded}
use Rattle.kapi_audit.specs.declared.fault.AuditFault.{AuditFault}
use Rattle.kapi_core.specs.Machine.{Machine}
use Rattle.kapi_core.specs.Refines.{Refines}
use Rattle.kapi_core.specs.Running.{Running}
use Rattle.kapi_core.specs.Table.{access_reviews_row}
use Rattle.kapi_publishing.specs.Boards.{Board}
use Rattle.kapi_publishing.specs.Steps.{after}
use Rattle.kapi_loading.specs.Faults as loading
use Rattle.kapi_loading.specs.Faults.{FileFault}
use Rattle.kapi_lines.specs.Lines.{NumberedLine, lines_of}
use Rattle.kapi_loading.specs.Loading.{Publishes, machine_of, policy_machine}
use Rattle.kapi_loading.specs.Settled.{is_settled}
use Rattle.kapi_loading.specs.declared.fault.StartError.{StartError}
use Rattle.kapi_loading.specs.declared.fault.StartError.TheVariants as start
use Rattle.kapi_model.specs.declared.row.ResourceRow.{ResourceRow}
use Rattle.kapi_policy.specs.Objects.{PolicyObjects}

-- what is answered by the policy that the desk has published is answered by the machine's policy
pub audited : {X : Type 0} (items : X → List ℕ) (core : Running) (desk : Board) (given : Result Machine FileFault) (asked : List NumberedLine) (result : Result X AuditFault)
    → (m : Machine) × (given ≡ Ok m) × Publishes core desk m
    → ResultIs model_of_fault items result (answered_by (answer_of access_reviews_row (after desk.opening desk.list)) asked)
    → ResultIs model_of_fault items result (answers_on given asked)
audited items core desk given asked result (m, is, (stands, shown)) h =
    let by : PolicyObjects → Result (List ℕ) AuditError = λ p. answered_by (answer_of access_reviews_row p) asked in
    let same : answers_on given asked ≡ by (after desk.opening desk.list) = ap (λ r. answers_on r asked) is ∙ ap by (sym shown) in
    subst (λ r. ResultIs model_of_fault items result r) (sym same) h

-- where no machine is made of the objects there are no answers
pub unanswered : {X : Type 0} (items : X → List ℕ) (result : Result X AuditFault) (e : StartError) (given : Result Machine FileFault) (asked : List NumberedLine)
    → IsErrAnd result (λ f. f ≡ unloaded e) → Fails (loading.model_of_fault e) given → ResultIs model_of_fault items result (answers_on given asked)
unanswered items (Ok x) e given asked is h = absurd is
unanswered items (Err f) (start.Line n) given asked is h = subst (λ x. Fails (model_of_fault x) (answers_on given asked)) (sym is) (ap (λ r. answers_on r asked) h)
unanswered items (Err f) start.Memory given asked is h = subst (λ x. Fails (model_of_fault x) (answers_on given asked)) (sym is) tt

-- the lines of two files
pub audited_files : {X : Type 0} (items : X → List ℕ) (result : Result X AuditFault) (table : List ResourceRow) (policy questions : List ℕ) (asked : List NumberedLine) → asked ≡ lines_of questions
    → ResultIs model_of_fault items result (answers_on (machine_of table policy) asked) → ResultIs model_of_fault items result (answers table policy questions)
unfolding answers
audited_files items result table policy questions asked is h = subst (λ ls. ResultIs model_of_fault items result (answers_on (machine_of table policy) ls)) is h

pub audited_objects : {X : Type 0} (items : X → List ℕ) (result : Result X AuditFault) (policy questions : List ℕ) (asked : List NumberedLine) → asked ≡ lines_of questions
    → ResultIs model_of_fault items result (answers_on (policy_machine policy) asked) → ResultIs model_of_fault items result (answers_alone policy questions)
unfolding answers_alone
audited_objects items result policy questions asked is h = subst (λ ls. ResultIs model_of_fault items result (answers_on (policy_machine policy) ls)) is h

-- if a result reports whether a machine refined by the core is settled, it reports this of the given machine
pub settled_as : {X E : Type 0} (result : Result X E) (told : X → Bool) (core : Running) (desk : Board) (given : Result Machine FileFault)
    → (m : Machine) × (given ≡ Ok m) × Publishes core desk m → ((m : Machine) → Refines core m → IfOk result (λ x. told x ≡ is_settled m))
    → (m : Machine) → given ≡ Ok m → IfOk result (λ x. told x ≡ is_settled m)
settled_as result told core desk given (m, is, (stands, shown)) h other same =
    let one : m ≡ other = cc (sym is ∙ same) in
    subst (λ k. IfOk result (λ x. told x ≡ is_settled k)) one (h m stands)
