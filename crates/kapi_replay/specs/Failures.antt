-- The answers of a case that are not as wanted.
use Rattle.std.specs.Prelude.{◌≡◌, ℕ, ◌==◌, Bool, true, if◌then◌else◌, List, [], ◌∷◌, ◌++◌, length, codes, Option, Some, None, Result, Ok, Err}
use Rattle.std.specs.List.{flat_map}
use Rattle.std.specs.Str.{bytes_eq}
use Rattle.kapi_core.specs.Machine.{Machine, with_rechecks}
use Rattle.kapi_loading.specs.Faults.{FileFault}
use Rattle.kapi_loading.specs.Faults as file_fault
use Rattle.kapi_lines.specs.Lines.{parts_of}
use Rattle.kapi_lines.specs.Words.{begins, nth}
use Rattle.kapi_loading.specs.Loading.{machine_of}
use Rattle.kapi_model.specs.declared.row.ResourceRow.{ResourceRow}
use Rattle.kapi_loading.specs.Reasons.{is_reason}
use Rattle.kapi_transcripts.specs.Reports.{line_at}
use Rattle.kapi_transcripts.specs.Wants.{is_met}
use Rattle.kapi_transcripts.specs.declared.case.Case.{Case}
use Rattle.kapi_transcripts.specs.declared.case.ScriptLine.{ScriptLine}
use Rattle.kapi_transcripts.specs.declared.case.Loaded.{Loaded}
use Rattle.kapi_transcripts.specs.declared.case.Expectation.{Expectation}
use Rattle.kapi_transcripts.specs.declared.failure.Failure.{Failure}
use Rattle.kapi_transcripts.specs.declared.failure.Failure.TheVariants as failure
use Rattle.kapi_script.specs.Scripts.{first_bad, lines, said}

-- a line of a script, with its end
abbrev pub line_text : List ℕ → List ℕ
line_text line = line ++ 10 ∷ []

-- a script as one text
abbrev pub script_text : List ScriptLine → List ℕ
script_text script = flat_map (λ e. line_text e.text) script

-- the number of an event, if there is one
abbrev pub number_or : Option ScriptLine → ℕ
number_or None = 0
number_or (Some e) = e.number

-- the transcript's line of the event of this number; 0 if there is none
abbrev pub number_at : List ScriptLine → ℕ → ℕ
number_at script n = number_or (nth script n)

-- the failure of what is wanted, where the answer differs
abbrev pub unmet : List ScriptLine → List (List ℕ) → Expectation → List Failure
unmet script answers w =
    if is_met w.wanted (line_at answers w.events) then []
    else failure.Differs (record { number = w.number; asked = number_at script w.events; events = w.events; answer = line_at answers w.events; reason = [] }) ∷ []

-- a failure without its reason
abbrev pub bare : Failure → Failure
bare (failure.Differs d) = failure.Differs (record d { reason = [] })
bare f = f

-- the failures of a case that is answered by this text, a line an event; a case in which nothing is wanted fails
abbrev pub differences : Case → List ℕ → List Failure
differences c text =
    if length c.wants == 0 then failure.NoCheck c.number ∷ [] else flat_map (unmet c.script (parts_of text)) c.wants

-- the text of an event, if there is one
abbrev pub text_or : Option ScriptLine → List ℕ
text_or None = []
text_or (Some e) = e.text

-- the line of a script of this number; nothing if there is none
abbrev pub event_text : List ScriptLine → ℕ → List ℕ
event_text script n = text_or (nth script n)

-- why a line that names an identity has no known form
abbrev pub names_reason : List ℕ
names_reason = codes "a user or group is empty, or begins or ends with white space"

-- the text may be the reason why this line of a script has no known form
abbrev pub is_reason_of : List ℕ → List ℕ → Bool
is_reason_of line reason = if begins line (codes "as ") then bytes_eq reason names_reason else is_reason reason

-- the failure of a case whose script has a line of no known form: the line, and a reason
abbrev pub IsBadLine : Case → ℕ → List Failure → Type 0
IsBadLine c n failures =
    (reason : List ℕ) × (is_reason_of (event_text c.script n) reason ≡ true) × (failures ≡ failure.NoForm (number_at c.script n) reason ∷ [])

-- a line of the script has no known form, or its answers are compared
abbrev pub FailsAs : Case → Option ℕ → List ℕ → List Failure → Type 0
FailsAs c (Some n) text failures = IsBadLine c n failures
FailsAs c None text failures = failures ≡ differences c text

-- the failures of a case that is played on a machine, which is out of memory at some of the case's lines
abbrev pub FailsOn : Machine → Case → List Failure → Type 0
FailsOn m c failures =
    (refused : List Bool) × FailsAs c (first_bad (script_text c.script)) (said m (lines (script_text c.script)) refused) failures

-- the failure of a case whose file of objects is not loaded: the line at fault, and a reason
abbrev pub IsNotLoaded : Loaded → ℕ → List Failure → Type 0
IsNotLoaded load n failures = (reason : List ℕ) × (is_reason reason ≡ true) × (failures ≡ failure.NotLoaded load.number n reason ∷ [])

-- the failures of a case on the machine made from a file; if a line of the file is not loaded, that line is the one
-- failure
abbrev pub FailsBy : Case → Loaded → Result Machine FileFault → List Failure → Type 0
FailsBy c load (Ok m) failures = FailsOn (with_rechecks c.rechecks m) c failures
FailsBy c load (Err (file_fault.bad_line n)) failures = IsNotLoaded load n failures

abbrev pub FailsLoaded : List ResourceRow → Case → Loaded → List ℕ → List Failure → Type 0
FailsLoaded table c load objects failures = FailsBy c load (machine_of table objects) failures
