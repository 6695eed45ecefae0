-- The report of a transcript.
use Rattle.std.specs.Prelude.{ℕ, ◌+◌, ◌==◌, nat_lt, Bool, true, false, not, ◌&&◌, if◌then◌else◌, List, [], ◌∷◌, ◌++◌, length, codes, Option, None, Some}
use Rattle.std.specs.List.{flat_map}
use Rattle.std.specs.Option.{option_or, unwrap_or}
use Rattle.kapi_lines.specs.Lines.{parts_of}
use Rattle.kapi_lines.specs.Words.{nth}
use Rattle.kapi_transcripts.specs.Corrections.{corrected, exactly}
use Rattle.kapi_transcripts.specs.Requests.{number_line}
use Rattle.kapi_transcripts.specs.Wants.{wanted_of}
use Rattle.kapi_transcripts.specs.declared.wanted.Expected.{Expected}
use Rattle.kapi_transcripts.specs.declared.failure.Difference.{Difference}
use Rattle.kapi_transcripts.specs.declared.failure.Failure.{Failure}
use Rattle.kapi_transcripts.specs.declared.failure.Failure.TheVariants as failure
use Rattle.kapi_transcripts.specs.declared.failure.Outcome.{Outcome}

-- the line of this number, from 1; nothing if there is none
abbrev pub line_at : List (List ℕ) → ℕ → List ℕ
line_at lines n = unwrap_or (nth lines n) []

-- a line of a file: `NAME:LINE`
abbrev pub place_text : List ℕ → ℕ → List ℕ
place_text name n = name ++ number_line (codes ":") n

-- the line of the transcript at which something is not as wanted
abbrev pub number_of : Failure → ℕ
number_of (failure.Differs d) = d.number
number_of (failure.NoForm n reason) = n
number_of (failure.NoFile n) = n
number_of (failure.NoKind n) = n
number_of (failure.NoCheck n) = n
number_of (failure.NotLoaded n line reason) = n
number_of (failure.BadManifests n reason) = n

-- the failure is an answer that differs
abbrev pub is_difference : Failure → Bool
is_difference (failure.Differs d) = true
is_difference f = false

-- the event that was answered, if one was
abbrev pub asked_text : List (List ℕ) → ℕ → List ℕ
asked_text lines n = if n == 0 then codes "nothing: no request or event comes before it in its case" else line_at lines n

-- a reason, on a line of its own
abbrev pub reason_text : List ℕ → List ℕ
reason_text reason = codes "\n  " ++ reason

-- what is wrong with manifests
abbrev pub manifests_text : List ℕ → List ℕ
manifests_text reason = codes ": the manifests are not loaded\n  " ++ reason

-- why a request was allowed or not, if that is known
abbrev pub why_text : List ℕ → List ℕ
why_text reason = if length reason == 0 then [] else codes "\n  why    " ++ reason

-- the event that was answered, what is wanted, what came, and why
abbrev pub difference_text : List (List ℕ) → Difference → List ℕ
difference_text lines d =
    codes "\n  asked  " ++ asked_text lines d.asked ++ codes "\n  wanted " ++ line_at lines d.number ++ codes "\n  got    " ++ d.answer ++ why_text d.reason

-- what is not as wanted, or why nothing came
abbrev pub what_text : List (List ℕ) → Failure → List ℕ
what_text lines (failure.Differs d) = difference_text lines d
what_text lines (failure.NoForm n reason) = codes ": no known form" ++ reason_text reason
what_text lines (failure.NoFile n) = codes ": the file cannot be read"
what_text lines (failure.NoKind n) = codes ": the file or folder holds no kind"
what_text lines (failure.NoCheck n) = codes ": the case that begins here checks nothing"
what_text lines (failure.NotLoaded n line reason) = number_line (codes ": load line ") line ++ reason_text reason
what_text lines (failure.BadManifests n reason) = manifests_text reason

-- a failure, and where it is
abbrev pub failure_text : List ℕ → List (List ℕ) → Failure → List ℕ
failure_text name lines f = (place_text name (number_of f) ++ what_text lines f) ++ codes "\n"

-- failures, one after the other
abbrev pub failures_text : List ℕ → List (List ℕ) → List Failure → List ℕ
failures_text name lines failures = flat_map (failure_text name lines) failures

-- how many failures there are, if there are some
abbrev pub count_text : ℕ → List ℕ
count_text failures = if failures == 0 then codes "\n" else number_line (codes ", ") failures ++ codes " not as wanted\n"

-- the failures of a transcript, and then how many checks it has
abbrev pub report_text : List (List ℕ) → Outcome → List ℕ
report_text lines o =
    (((failures_text o.name lines o.failures ++ o.name) ++ number_line (codes ": ") (length o.checks)) ++ codes " checks") ++ count_text (length o.failures)

-- ---- a transcript with the answers that came

-- the actual answer of a failure, if the failure is a difference at this line
abbrev pub answer_for : ℕ → Failure → Option (List ℕ)
answer_for n (failure.Differs d) = if d.number == n then Some d.answer else None
answer_for n f = None

-- the actual answer of the first difference at this line, if there is one
abbrev pub came_for : ℕ → List Failure → Option (List ℕ)
came_for n [] = None
came_for n (f ∷ fs) = option_or (answer_for n f) (came_for n fs)

-- the line that expects the actual answer, in place of this expectation
abbrev pub corrected_line : Option Expected → List ℕ → List ℕ
corrected_line None answer = exactly answer
corrected_line (Some wanted) answer = corrected wanted answer

-- a line, or in its place the line that expects the actual answer, if one is given
abbrev pub line_or : List ℕ → Option (List ℕ) → List ℕ
line_or line None = line
line_or line (Some answer) = corrected_line (wanted_of line) answer

-- a line of a transcript as it is rewritten, after the line feed that ends the line before
abbrev pub rewritten_line : List Failure → ℕ → List ℕ → List ℕ
rewritten_line failures n line = (if nat_lt 1 n then codes "\n" else []) ++ line_or line (came_for n failures)

-- lines as they are rewritten; the number of the first is n
abbrev pub rewritten_from : List Failure → ℕ → List (List ℕ) → List ℕ
rewritten_from failures n [] = []
rewritten_from failures n (l ∷ ls) = rewritten_line failures n l ++ rewritten_from failures (n + 1) ls

-- the transcript with each unmet expectation corrected to the actual answer
abbrev pub rewritten : List (List ℕ) → List Failure → List ℕ
rewritten lines failures = rewritten_from failures 1 lines

-- the text for a transcript: its report, or the transcript with the answers that came
abbrev pub written : Bool → List ℕ → Outcome → List ℕ
written rewrites text o = if rewrites then rewritten (parts_of text) o.failures else report_text (parts_of text) o

-- something is checked, and everything is as wanted
abbrev pub is_well : Outcome → Bool
is_well o = not (length o.checks == 0) && length o.failures == 0

-- no line expects 403 for a resource that is not served
abbrev pub is_sure : Outcome → Bool
is_sure o = length o.doubts == 0
