-- Answers about the policies of files.
use Rattle.std.specs.Prelude.{◌≡◌, ℕ, ◌==◌, not, Bool, List, ◌++◌, length, Option, Some, None, Result, Ok, Err}
use Rattle.kapi_text.specs.ResultIs.{◌>>=◌}
use Rattle.kapi_lines.specs.Lines.{lines_of}
use Rattle.kapi_loading.specs.Faults.{FileFault, bad_line}
use Rattle.kapi_engine.specs.LoadedPolicies.{loaded_of}
use Rattle.kapi_engine.specs.Paths.{IsPathsText}
use Rattle.kapi_engine.specs.declared.loaded_policy.LoadedPolicy.{LoadedPolicy}
use Rattle.kapi_access.specs.Gained.{gained}
use Rattle.kapi_access.specs.declared.identities.Identities.{Identities}
use Rattle.kapi_access.specs.Risks.{risks}
use Rattle.kapi_access.specs.Answers.{gains_text, settled_line, ways_text, who_text}
use Rattle.kapi_access.specs.Lines.{LineError, answered_lines, no_question}
use Rattle.kapi_access.specs.Rights.{what_text}
use Rattle.kapi_lines.specs.declared.form.Form.{Form}
use Rattle.kapi_access.specs.declared.answer.Shown.{Shown}
use Rattle.kapi_access.specs.declared.question.ScopedPoint.{ScopedPoint}
use Rattle.kapi_access.specs.declared.rights.Holder.{Holder}
use Rattle.kapi_command_line.specs.declared.program.PathsWords.{PathsWords}
use Rattle.kapi_commands.specs.declared.policies.Answered.{Answered}
use Rattle.kapi_commands.specs.declared.policies.Compared.{Compared}
use Rattle.kapi_commands.specs.declared.policies.FilesFault.{FilesFault}
use Rattle.kapi_commands.specs.declared.policies.FilesFault.TheVariants as fault
use Rattle.kapi_loading.specs.declared.fault.StartError.{StartError}
use Rattle.kapi_loading.specs.declared.fault.StartError.TheVariants as start
use Rattle.kapi_access.specs.declared.lines.LineFault.{LineFault}
use Rattle.kapi_access.specs.declared.lines.LineFault.TheVariants as lined

-- the line at fault: of the first policy, of the second, or of the questions
pub data FilesError : Type 0 where
  first_line : ℕ → FilesError
  second_line : ℕ → FilesError
  question_line : ℕ → FilesError

-- the line that a fault reports: nothing if it is out of memory
abbrev pub model_of_fault : FilesFault → Option FilesError
model_of_fault (fault.First n) = Some (first_line n)
model_of_fault (fault.Second n) = Some (second_line n)
model_of_fault (fault.Question n) = Some (question_line n)
model_of_fault fault.Memory = None

-- the fault if the first policy is not loaded
abbrev pub first_fault : StartError → FilesFault
first_fault (start.Line n) = fault.First n
first_fault start.Memory = fault.Memory

-- the fault if the second policy is not loaded
abbrev pub second_fault : StartError → FilesFault
second_fault (start.Line n) = fault.Second n
second_fault start.Memory = fault.Memory

-- the fault if a line is no question
abbrev pub question_fault : LineFault → FilesFault
question_fault (lined.Question n) = fault.Question n
question_fault lined.Memory = fault.Memory

-- ---- engines

-- the loaded policy of the first file
abbrev pub as_first : Result LoadedPolicy FileFault → Result LoadedPolicy FilesError
as_first (Ok e) = Ok e
as_first (Err (bad_line n)) = Err (first_line n)

-- the loaded policy of the second file
abbrev pub as_second : Result LoadedPolicy FileFault → Result LoadedPolicy FilesError
as_second (Ok e) = Ok e
as_second (Err (bad_line n)) = Err (second_line n)

-- ---- answers

-- what is printed of a comparison, whether anybody gains, and whether the roles of each policy are settled
pub record Comparison : Type 0 where
  pub text : List ℕ
  pub gains : Bool
  pub before_settled : Bool
  pub after_settled : Bool

-- what one policy allows those identities that another did not
abbrev pub comparison : Form → Shown → Identities → LoadedPolicy → LoadedPolicy → Comparison
comparison f s who b a = record {
  text = gains_text f s (gained who b.policy a.policy);
  gains = not (length (gained who b.policy a.policy) == 0);
  before_settled = b.settled;
  after_settled = a.settled;
}

-- the comparison of a policy with that of a second file
abbrev pub compared_to : Form → Shown → Identities → LoadedPolicy → Result LoadedPolicy FileFault → Result Comparison FilesError
compared_to f s who b second = as_second second >>= λ a. Ok (comparison f s who b a)

-- the comparison of the policies in two files
unfoldable pub compare_files : Form → Shown → Identities → List ℕ → List ℕ → Result Comparison FilesError
compare_files f s who before after = as_first (loaded_of before) >>= λ b. compared_to f s who b (loaded_of after)

-- a comparison, as data
abbrev pub compared_told : Compared → Comparison
compared_told c = record {
  text = c.text.items;
  gains = c.gains;
  before_settled = c.before_settled;
  after_settled = c.after_settled;
}

-- what is printed of an answer, and whether the roles of the policy are settled
pub record Reply : Type 0 where
  pub text : List ℕ
  pub settled : Bool

-- an answer, as data
abbrev pub answered_told : Answered → Reply
answered_told a = record { text = a.text.items; settled = a.settled }

-- who may do what is asked, by a policy
abbrev pub who_on : Form → ScopedPoint → LoadedPolicy → Reply
who_on f w e = record { text = who_text f e.policy w; settled = e.settled }

-- who may do what is asked, by the policy in a file
unfoldable pub who_wanted : Form → List ℕ → ScopedPoint → Result Reply FilesError
who_wanted f objects w = as_first (loaded_of objects) >>= λ e. Ok (who_on f w e)

-- the line that is no question
abbrev pub as_question : Result (List ℕ) LineError → Result (List ℕ) FilesError
as_question (Ok text) = Ok text
as_question (Err (no_question n)) = Err (question_line n)

-- who may do what each line of a file asks, by a policy
abbrev pub lines_on : Form → List ℕ → LoadedPolicy → Result Reply FilesError
lines_on f questions e = as_question (answered_lines f e.policy (lines_of questions)) >>= λ text. Ok (record { text = text; settled = e.settled })

-- who may do what each line of a file asks, by the policy in another file
unfoldable pub who_file : Form → List ℕ → List ℕ → Result Reply FilesError
who_file f objects questions = as_first (loaded_of objects) >>= λ e. lines_on f questions e

-- what a user has by a policy
abbrev pub what_on : Form → Holder → LoadedPolicy → Reply
what_on f h e = record { text = what_text f e.policy h; settled = e.settled }

-- what a user has by the policy in a file
unfoldable pub what_file : Form → List ℕ → Holder → Result Reply FilesError
what_file f objects h = as_first (loaded_of objects) >>= λ e. Ok (what_on f h e)

-- who may gain more than a policy grants, and what holds of all others
abbrev pub risks_on : Form → LoadedPolicy → Reply
risks_on f e = record { text = ways_text f (risks e.policy) ++ settled_line f e.settled; settled = e.settled }

-- who may gain more than the policy of a file grants, and what holds of all others
unfoldable pub risks_file : Form → List ℕ → Result Reply FilesError
risks_file f objects = as_first (loaded_of objects) >>= λ e. Ok (risks_on f e)

-- whether the roles of the policy of a file are settled
unfoldable pub settled_file : List ℕ → Result Bool FilesError
settled_file objects = as_first (loaded_of objects) >>= λ e. Ok e.settled

-- the text is that of who can become whom by the policy that a file is
abbrev pub ArePaths : PathsWords → List ℕ → List ℕ → Type 0
ArePaths asked objects text = (e : LoadedPolicy) → as_first (loaded_of objects) ≡ Ok e → IsPathsText e asked.asking.form asked.to asked.without text
