-- The answers to questions of a file, a question a line.
use Rattle.std.specs.Prelude.{ℕ, List, [], ◌∷◌, ◌++◌, codes, decimal, Option, Some, None, Result, Ok, Err}
use Rattle.kapi_text.specs.ResultIs.{◌>>=◌}
use Rattle.kapi_report.specs.Reports.{printable}
use Rattle.kapi_lines.specs.Lines.{NumberedLine}
use Rattle.kapi_policy.specs.Objects.{PolicyObjects}
use Rattle.kapi_access.specs.Answers.{who_text}
use Rattle.kapi_access.specs.Questions.{question_in}
use Rattle.kapi_lines.specs.declared.form.Form.{Form}
use Rattle.kapi_lines.specs.declared.form.Form.TheVariants as form
use Rattle.kapi_access.specs.declared.lines.LineFault.{LineFault}
use Rattle.kapi_access.specs.declared.lines.LineFault.TheVariants as fault
use Rattle.kapi_access.specs.declared.question.ScopedPoint.{ScopedPoint}

-- the line that is no question
pub data LineError : Type 0 where
  no_question : ℕ → LineError

-- the line that a fault tells: none if an allocation failed
abbrev pub model_of_fault : LineFault → Option LineError
model_of_fault (fault.Question n) = Some (no_question n)
model_of_fault fault.Memory = None

-- a line and its number
abbrev pub head_words : NumberedLine → List ℕ
head_words l = codes "line " ++ (decimal l.number ++ (codes ": " ++ (printable l.text ++ 10 ∷ [])))

-- the line that tells which question is answered below it; in Markdown empty lines stand around it
abbrev pub head : Form → NumberedLine → List ℕ
head form.Table l = head_words l
head form.Markdown l = 10 ∷ (head_words l ++ 10 ∷ [])
head form.Json l = codes "{\"line\":" ++ (decimal l.number ++ codes "}\n")

-- the answer to a line with its question, or the fault of a line without one
abbrev pub answered_by : Form → PolicyObjects → NumberedLine → Option ScopedPoint → Result (List ℕ) LineError
answered_by f objects l (Some w) = Ok (head f l ++ who_text f objects w)
answered_by f objects l None = Err (no_question l.number)

-- the answer to a line
abbrev pub answered : Form → PolicyObjects → NumberedLine → Result (List ℕ) LineError
answered f objects l = answered_by f objects l (question_in l.text)

-- the answers to lines, one behind the other, or the first line that is no question
unfoldable pub answered_lines : Form → PolicyObjects → List NumberedLine → Result (List ℕ) LineError
answered_lines f objects [] = Ok []
answered_lines f objects (l ∷ ls) = answered f objects l >>= λ text. (answered_lines f objects ls >>= λ rest. Ok (text ++ rest))
