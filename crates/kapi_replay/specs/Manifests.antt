-- The failures of a case that begins with manifests.
use Rattle.std.specs.Prelude.{◌≡◌, ℕ, ◌+◌, ◌-◌, ◌==◌, nat_lt, true, if◌then◌else◌, List, [], ◌∷◌, ◌++◌, length, codes, Option, Some, None, Result, Ok, Err}
use Rattle.std.specs.List.{find, flat_map, list_all}
use Rattle.std.specs.Option.{unwrap_or}
use Rattle.kapi_core.specs.Machine.{Machine, with_rechecks}
use Rattle.kapi_lines.specs.Words.{nth}
use Rattle.kapi_loading.specs.Faults.{FileFault}
use Rattle.kapi_loading.specs.Faults as file_fault
use Rattle.kapi_loading.specs.Loading.{machine_alone}
use Rattle.kapi_manifests.specs.Written.{Loads, faults_in_all}
use Rattle.kapi_model.specs.declared.row.ResourceRow.{ResourceRow}
use Rattle.kapi_manifests.specs.declared.fault.Fault.{Fault}
use Rattle.kapi_manifests.specs.declared.fault.Origin.{Origin}
use Rattle.kapi_manifests.specs.declared.prepared.Prepared.{Prepared}
use Rattle.kapi_manifests.specs.declared.sorted.Selection.TheVariants.{All}
use Rattle.kapi_loading.specs.Reasons.{is_shown}
use Rattle.kapi_replay.specs.Failures.{FailsOn}
use Rattle.kapi_transcripts.specs.Files.{texts_named}
use Rattle.kapi_transcripts.specs.Reports.{place_text}
use Rattle.kapi_transcripts.specs.declared.failure.Failure.{Failure}
use Rattle.kapi_transcripts.specs.declared.failure.Failure.TheVariants as failure
use Rattle.kapi_transcripts.specs.declared.files.LoadedFile.{LoadedFile}
use Rattle.kapi_transcripts.specs.Requests.{number_line}
use Rattle.kapi_transcripts.specs.declared.case.Case.{Case}
use Rattle.kapi_transcripts.specs.declared.case.Loaded.{Loaded}
use Rattle.kapi_transcripts.specs.declared.case.Manifests.{Manifests}

-- the texts of files, one file after the other
abbrev pub all_texts : List LoadedFile → List Loaded → List (List ℕ)
all_texts loads files = flat_map (λ f. texts_named loads f.name) files

-- the first file that is not there, or is a folder without files
abbrev pub first_missing : List LoadedFile → List Loaded → Option Loaded
first_missing loads files = find (λ f. length (texts_named loads f.name) == 0) files

-- ---- what is wrong with manifests

-- the file that has the text of this number, from 0 over all files; and the number of the text in it, from 1
abbrev pub text_at : List LoadedFile → List Loaded → ℕ → Option (Loaded × ℕ)
text_at loads [] n = None
text_at loads (f ∷ fs) n =
    if nat_lt n (length (texts_named loads f.name)) then Some (f, n + 1) else text_at loads fs (n - length (texts_named loads f.name))

-- the name of a text: the name of its file or folder and, unless it is the only text there, its number
abbrev pub text_name : List ℕ → ℕ → ℕ → List ℕ
text_name name count n = if count == 1 then name else name ++ number_line (codes ", file ") n

-- how many more faults there are, if there are some
abbrev pub more_text : ℕ → List ℕ
more_text n = if n == 0 then [] else number_line (codes " (and ") n ++ codes " more)"

-- `FILE:LINE: REASON`, and how many more faults there are
abbrev pub fault_text : List ℕ → ℕ → List ℕ → ℕ → List ℕ
fault_text name line reason more = ((place_text name line ++ codes ": ") ++ reason) ++ more_text more

-- the failure at the transcript's line that names the file
abbrev pub fault_at : List LoadedFile → Option (Loaded × ℕ) → ℕ → List ℕ → ℕ → Failure
fault_at loads None line reason more = failure.BadManifests 0 (fault_text [] line reason more)
fault_at loads (Some p) line reason more =
    failure.BadManifests p.0.number (fault_text (text_name p.0.name (length (texts_named loads p.0.name)) p.1) line reason more)

-- the failure of manifests with a fault at this origin, for a reason on one line, and `more` further faults
abbrev pub IsFaultAt : List LoadedFile → List Loaded → Origin → ℕ → List Failure → Type 0
IsFaultAt loads files origin more failures =
    (reason : List ℕ) × (list_all is_shown reason ≡ true) × (failures ≡ fault_at loads (text_at loads files origin.file) origin.line reason more ∷ [])

-- where the object of a line begins
abbrev pub origin_at : List Origin → ℕ → Origin
origin_at origins n = unwrap_or (nth origins n) (record { file = 0; line = 0 })

-- the failure of manifests whose line of this number is not loaded
abbrev pub IsRefused : List LoadedFile → List Loaded → Prepared → ℕ → List Failure → Type 0
IsRefused loads files p n failures = (more : ℕ) × IsFaultAt loads files (origin_at p.origins.items n) more failures

-- ---- the failures

-- the failures of a case on the machine made from manifests alone; if a line is not loaded, that line is the one
-- failure
abbrev pub FailsAlone : List LoadedFile → Case → List Loaded → Prepared → Result Machine FileFault → List Failure → Type 0
FailsAlone loads c files p (Ok m) failures = FailsOn (with_rechecks c.rechecks m) c failures
FailsAlone loads c files p (Err (file_fault.bad_line n)) failures = IsRefused loads files p n failures

-- the failures of manifests with these faults
abbrev pub FailsBehind : List ResourceRow → List LoadedFile → Case → List Loaded → Prepared → List Fault → List Failure → Type 0
FailsBehind table loads c files p [] failures = FailsAlone loads c files p (machine_alone table 0 p.text.items) failures
FailsBehind table loads c files p (f ∷ fs) failures = IsFaultAt loads files f.origin (length fs) failures

-- what is loaded of the files by a table of resource types, and how many faults they have
pub record IsRead (table : List ResourceRow) (loads : List LoadedFile) (m : Manifests) (p : Prepared) : Type 0 where
  pub loaded : Loads table All [] m.defaults (all_texts loads m.files) p
  pub faults : length p.faults.items ≡ faults_in_all table All [] (all_texts loads m.files)

-- the failures of a case that begins with what is loaded of the files
abbrev pub FailsTexts : List ResourceRow → List LoadedFile → Case → Manifests → List Failure → Type 0
FailsTexts table loads c m failures = (p : Prepared) × IsRead table loads m p × FailsBehind table loads c m.files p p.faults.items failures

-- the failures of a case that begins with manifests, by their first missing file, if there is one
abbrev pub FailsWithout : List ResourceRow → List LoadedFile → Case → Manifests → Option Loaded → List Failure → Type 0
FailsWithout table loads c m None failures = FailsTexts table loads c m failures
FailsWithout table loads c m (Some f) failures = failures ≡ failure.NoFile f.number ∷ []

abbrev pub FailsManifests : List ResourceRow → List LoadedFile → Case → Manifests → List Failure → Type 0
FailsManifests table loads c m failures = FailsWithout table loads c m (first_missing loads m.files) failures
