-- The cases of a transcript: what each line adds to the script of its case.
use Rattle.std.specs.Prelude.{ℕ, ◌==◌, Bool, true, false, ◌&&◌, ◌||◌, if◌then◌else◌, List, [], ◌∷◌, ◌++◌, length, drop, codes, Option, Some, None}
use Rattle.std.specs.List.{position}
use Rattle.std.specs.Str.{bytes_eq}
use Rattle.kapi_lines.specs.Lines.{NumberedLine}
use Rattle.kapi_transcripts.specs.Forms.{form_of}
use Rattle.kapi_transcripts.specs.Requests.{feed_line, number_line, request_text}
use Rattle.kapi_transcripts.specs.declared.case.Beginning.{Beginning}
use Rattle.kapi_transcripts.specs.declared.case.Beginning.TheVariants as beginning
use Rattle.kapi_transcripts.specs.declared.case.Case.{Case}
use Rattle.kapi_transcripts.specs.declared.case.ScriptLine.{ScriptLine}
use Rattle.kapi_transcripts.specs.declared.case.Loaded.{Loaded}
use Rattle.kapi_transcripts.specs.declared.case.Manifests.{Manifests}
use Rattle.kapi_transcripts.specs.declared.case.Expectation.{Expectation}
use Rattle.kapi_transcripts.specs.declared.draft.Draft.{Draft}
use Rattle.kapi_transcripts.specs.declared.form.Form.{Form}
use Rattle.kapi_transcripts.specs.declared.form.Form.TheVariants as form
use Rattle.kapi_transcripts.specs.declared.form.Source.{Source}
use Rattle.kapi_transcripts.specs.declared.form.Source.TheVariants as source
use Rattle.kapi_transcripts.specs.declared.request.Request.{Request}
use Rattle.kapi_transcripts.specs.declared.wanted.Expected.{Expected}
use Rattle.kapi_lines.specs.Words.{begins}

-- a case that is being read: the line that begins it, or 0 if none does; what it begins with, its files of kinds, whether
-- it rechecks rights, its script and wants so far, the identities of its connections in their order, the connection that
-- was taken last, and whether a header field may follow
pub record PlainDraft : Type 0 where
  pub number : ℕ
  pub begins : Beginning
  pub kinds : List Loaded
  pub rechecks : Bool
  pub script : List ScriptLine
  pub wants : List Expectation
  pub opened : List (List ℕ)
  pub taken : Option ℕ
  pub fields : Bool

-- a draft, as lists
abbrev pub draft_of : Draft → PlainDraft
draft_of d =
    record { number = d.number; begins = d.begins; kinds = d.kinds.items; rechecks = d.rechecks; script = d.script.items; wants = d.wants.items; opened = d.opened.items; taken = d.taken; fields = d.fields }

-- a case without lines
abbrev pub fresh : PlainDraft
fresh = record { number = 0; begins = beginning.Opening; kinds = []; rechecks = false; script = []; wants = []; opened = []; taken = None; fields = false }

-- the case that was read
abbrev pub case_of : PlainDraft → Case
case_of d = record { number = if d.number == 0 then 1 else d.number; begins = d.begins; kinds = d.kinds; rechecks = d.rechecks; script = d.script; wants = d.wants }

-- ---- what a line adds

-- a line of the script
abbrev pub event : PlainDraft → ℕ → List ℕ → PlainDraft
event d n text = record d { script = d.script ++ record { number = n; text = text } ∷ []; fields = false }

-- the names of a line that opens a connection
abbrev pub opened_by : List ℕ → List (List ℕ)
opened_by text = if begins text (codes "open ") then drop 5 text ∷ [] else []

-- a line of a script, as it is
abbrev pub raw : PlainDraft → ℕ → List ℕ → PlainDraft
raw d n text = record (event d n text) { opened = d.opened ++ opened_by text }

-- the first connection that was opened for these names
abbrev pub connection_of : List (List ℕ) → List ℕ → Option ℕ
connection_of opened names = position (λ other. bytes_eq other names) opened

-- the line that opens a connection
abbrev pub open_line : List ℕ → List ℕ
open_line names = codes "open " ++ names

-- a connection is opened and taken
abbrev pub opens : PlainDraft → ℕ → List ℕ → PlainDraft
opens d n names = record (event d n (open_line names)) { opened = d.opened ++ names ∷ []; taken = Some (length d.opened) }

-- a connection is taken, and opened if there is none
abbrev pub acted_on : PlainDraft → ℕ → List ℕ → Option ℕ → PlainDraft
acted_on d n names None = opens d n names
acted_on d n names (Some k) = record d { taken = Some k; fields = false }

-- the connection of these names is taken
abbrev pub acted : PlainDraft → ℕ → List ℕ → PlainDraft
acted d n names = acted_on d n names (connection_of d.opened names)

-- a request is fed to the connection that was taken last, and served; without a connection the line is one of the
-- script
abbrev pub asked_on : PlainDraft → NumberedLine → Request → List NumberedLine → Option ℕ → PlainDraft
asked_on d l r later None = raw d l.number l.text
asked_on d l r later (Some k) =
    record (event (event d l.number (feed_line k (request_text r later))) l.number (number_line (codes "serve ") k)) { fields = true }

abbrev pub asked : PlainDraft → NumberedLine → Request → List NumberedLine → PlainDraft
asked d l r later = asked_on d l r later d.taken

-- the connection that was taken last is pumped
abbrev pub pumped_on : PlainDraft → NumberedLine → Option ℕ → PlainDraft
pumped_on d l None = raw d l.number l.text
pumped_on d l (Some k) = event d l.number (number_line (codes "pump ") k)

abbrev pub pumped : PlainDraft → NumberedLine → PlainDraft
pumped d l = pumped_on d l d.taken

-- the rights of watches are rechecked, if no event comes before the line
abbrev pub rechecked : PlainDraft → NumberedLine → PlainDraft
rechecked d l = if length d.script == 0 then record d { rechecks = true; fields = false } else raw d l.number l.text

-- the case has a file of kinds, if no event comes before the line
abbrev pub with_kinds : PlainDraft → NumberedLine → List ℕ → PlainDraft
with_kinds d l name =
    if length d.script == 0 then record d { kinds = d.kinds ++ record { number = l.number; name = name } ∷ []; fields = false } else raw d l.number l.text

-- something is wanted of the last answer
abbrev pub wants : PlainDraft → ℕ → Expected → PlainDraft
wants d n wanted = record d { wants = d.wants ++ record { number = n; events = length d.script; wanted = wanted } ∷ []; fields = false }

-- a header field belongs to the request above it
abbrev pub field : PlainDraft → NumberedLine → PlainDraft
field d l = if d.fields then d else raw d l.number l.text

-- the case after a line of this form; `later` are the lines after it
abbrev pub drafted : PlainDraft → NumberedLine → Form → List NumberedLine → PlainDraft
drafted d l (form.Actor names) later = acted d l.number names
drafted d l (form.Request r) later = asked d l r later
drafted d l form.Field later = field d l
drafted d l form.Pump later = pumped d l
drafted d l form.Recheck later = rechecked d l
drafted d l (form.Kinds name) later = with_kinds d l name
drafted d l (form.Expectation wanted) later = wants d l.number wanted
drafted d l f later = raw d l.number l.text

-- ---- the cases

-- the manifests that a case begins with; no files if it begins with anything else
abbrev pub manifests_in : Beginning → Manifests
manifests_in (beginning.Manifests m) = m
manifests_in begins = record { files = []; defaults = false }

-- what a case begins with by a line, after it began with this: the opening objects, a file's, or those of its manifests
-- and a file more, or the default roles beneath them
abbrev pub begins_with : Beginning → ℕ → Source → Beginning
begins_with before n source.Opening = beginning.Opening
begins_with before n (source.Lines name) = beginning.Lines (record { number = n; name = name })
begins_with before n (source.Manifests name) =
    beginning.Manifests (record { files = (manifests_in before).files ++ record { number = n; name = name } ∷ []; defaults = (manifests_in before).defaults })
begins_with before n source.Defaults = beginning.Manifests (record { files = (manifests_in before).files; defaults = true })

-- the case begins as a line says
abbrev pub begun : PlainDraft → ℕ → Source → PlainDraft
begun d n s = record d { number = n; begins = begins_with d.begins n s }

-- a line says more of what a case begins with: something behind `begin`, or manifests behind manifests
abbrev pub joins : Beginning → Source → Bool
joins begins source.Opening = false
joins beginning.Opening s = true
joins (beginning.Lines file) s = false
joins (beginning.Manifests m) (source.Lines name) = false
joins (beginning.Manifests m) s = true

-- a line that begins a case begins this one: nothing is asked or wanted yet, and the line is the first of these lines or
-- says more. So a case has all `kinds`, `recheck` and `manifests` lines above its first request.
abbrev pub takes : PlainDraft → Source → Bool
takes d s = length d.script == 0 && (length d.wants == 0 && (d.number == 0 || joins d.begins s))

-- the case that a line that begins one ends, if it ends one
abbrev pub ended_at : PlainDraft → Source → List Case
ended_at d s = if takes d s then [] else case_of d ∷ []

-- the case that such a line begins, without the line
abbrev pub begun_from : PlainDraft → Source → PlainDraft
begun_from d s = if takes d s then d else fresh

-- the case that a line of this form ends, if it ends one
abbrev pub ended : PlainDraft → Form → List Case
ended d (form.Begin s) = ended_at d s
ended d f = []

-- the case being read after a line of this form; `later` are the lines after it
abbrev pub next : PlainDraft → NumberedLine → Form → List NumberedLine → PlainDraft
next d l (form.Begin s) later = begun (begun_from d s) l.number s
next d l f later = drafted d l f later

-- the cases of lines, the first of which is being read
unfoldable pub cases_from : PlainDraft → List NumberedLine → List Case
cases_from d [] = case_of d ∷ []
cases_from d (l ∷ ls) = ended d (form_of l.text) ++ cases_from (next d l (form_of l.text) ls) ls

-- the cases of a transcript; `begin`, `load` and `manifests` begin one
abbrev pub cases_of : List NumberedLine → List Case
cases_of lines = cases_from fresh lines
