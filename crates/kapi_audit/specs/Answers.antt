-- The answers of an audit.
use Rattle.std.specs.Prelude.{ℕ, List, [], ◌∷◌, ◌++◌, Option, Result, Ok, Err, ok_or, option_map}
use Rattle.kapi_text.specs.ResultIs.{◌>>=◌}
use Rattle.kapi_core.specs.Machine.{Machine, policy_of}
use Rattle.kapi_core.specs.Table.{access_reviews_row}
use Rattle.kapi_model.specs.declared.row.ResourceRow.{ResourceRow}
use Rattle.kapi_policy.specs.Decided.{decided}
use Rattle.kapi_policy.specs.Objects.{PolicyObjects}
use Rattle.kapi_engine.specs.Lines.{decision_line}
use Rattle.kapi_audit.specs.Faults.{AuditError, policy_line, question_line}
use Rattle.kapi_loading.specs.Faults.{FileFault, bad_line}
use Rattle.kapi_lines.specs.Lines.{NumberedLine, lines_of}
use Rattle.kapi_loading.specs.Loading.{machine_of, policy_machine}
use Rattle.kapi_engine.specs.Questions.{question_of}

-- the line that answers a question by a policy; none if the line is no question
abbrev pub answer_of : ResourceRow → PolicyObjects → List ℕ → Option (List ℕ)
answer_of row policy line = option_map (λ q. decision_line (decided policy q.identity q.namespace q.point)) (question_of row line)

-- the answers to lines, one behind the other, or the first line that has none
unfoldable pub answered_by : (List ℕ → Option (List ℕ)) → List NumberedLine → Result (List ℕ) AuditError
answered_by answer [] = Ok []
answered_by answer (l ∷ ls) = ok_or (answer l.text) (question_line l.number) >>= λ text. (answered_by answer ls >>= λ rest. Ok (text ++ rest))

-- the answers to lines by the policy of a machine, or the line of its file that is not loaded
abbrev pub answers_on : Result Machine FileFault → List NumberedLine → Result (List ℕ) AuditError
answers_on (Ok m) asked = answered_by (answer_of access_reviews_row (policy_of m)) asked
answers_on (Err (bad_line n)) asked = Err (policy_line n)

-- the answers to a file of questions by the policy that a file of objects is on a machine of a table
unfoldable pub answers : List ResourceRow → List ℕ → List ℕ → Result (List ℕ) AuditError
answers table policy questions = answers_on (machine_of table policy) (lines_of questions)

-- the answers by the policy of a file's objects alone, without the objects that every other machine begins with
unfoldable pub answers_alone : List ℕ → List ℕ → Result (List ℕ) AuditError
answers_alone policy questions = answers_on (policy_machine policy) (lines_of questions)
