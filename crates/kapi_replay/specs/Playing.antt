-- The failures of a case, by what it begins with.
use Rattle.std.specs.Prelude.{◌≡◌, ℕ, List, [], ◌∷◌, Option, Some, None}
use Rattle.kapi_core.specs.Machine.{with_rechecks}
use Rattle.kapi_replay.specs.Failures.{FailsLoaded, FailsOn}
use Rattle.kapi_transcripts.specs.Files.{file_named, only_text, texts_named}
use Rattle.kapi_manifests.specs.declared.fault.Origin.{Origin}
use Rattle.kapi_replay.specs.Kinds.{first_blank, table_of}
use Rattle.kapi_replay.specs.Manifests.{FailsManifests, IsFaultAt}
use Rattle.kapi_transcripts.specs.declared.failure.Failure.{Failure}
use Rattle.kapi_transcripts.specs.declared.failure.Failure.TheVariants as failure
use Rattle.kapi_transcripts.specs.declared.files.LoadedFile.{LoadedFile}
use Rattle.kapi_model.specs.declared.row.ResourceRow.{ResourceRow}
use Rattle.kapi_script.specs.Scripts.{start}
use Rattle.kapi_transcripts.specs.declared.case.Beginning.{Beginning}
use Rattle.kapi_transcripts.specs.declared.case.Beginning.TheVariants as beginning
use Rattle.kapi_transcripts.specs.declared.case.Case.{Case}
use Rattle.kapi_transcripts.specs.declared.case.Loaded.{Loaded}

-- the failures of a case that begins with a file of objects, or the failure of the missing file
abbrev pub FailsWith : List ResourceRow → Case → Loaded → Option (List ℕ) → List Failure → Type 0
FailsWith table c file (Some objects) failures = FailsLoaded table c file objects failures
FailsWith table c file None failures = failures ≡ failure.NoFile file.number ∷ []

-- the failures of a case that begins with a file of objects, which has one text
abbrev pub FailsLines : List ResourceRow → List LoadedFile → Case → Loaded → List Failure → Type 0
FailsLines table loads c file failures = FailsWith table c file (only_text (texts_named loads file.name)) failures

-- the failures of a case on the opening machine, or on the one that files make, which rechecks the rights of watches
-- if the case says so
abbrev pub FailsFrom : List ResourceRow → List LoadedFile → Case → Beginning → List Failure → Type 0
FailsFrom table loads c beginning.Opening failures = FailsOn (with_rechecks c.rechecks (start table)) c failures
FailsFrom table loads c (beginning.Lines file) failures = FailsLines table loads c file failures
FailsFrom table loads c (beginning.Manifests m) failures = FailsManifests table loads c m failures

-- the failure of files of kinds with a fault: where it is, and a reason
abbrev pub IsBadKinds : List LoadedFile → List Loaded → List Failure → Type 0
IsBadKinds loads files failures = (origin : Origin) × (more : ℕ) × IsFaultAt loads files origin more failures

-- the failures of a case over the table that its files of kinds make, or the first fault of these files
abbrev pub FailsOver : List LoadedFile → Case → Option (List ResourceRow) → List Failure → Type 0
FailsOver loads c (Some table) failures = FailsFrom table loads c c.begins failures
FailsOver loads c None failures = IsBadKinds loads c.kinds failures

-- the failure of a file or folder of kinds, by what is found of it
abbrev pub no_kind_in : Loaded → Option LoadedFile → Failure
no_kind_in file None = failure.NoFile file.number
no_kind_in file (Some found) = failure.NoKind file.number

-- the failure of a file or folder of kinds that holds none, or is not there
abbrev pub no_kind : List LoadedFile → Loaded → Failure
no_kind loads file = no_kind_in file (file_named loads file.name)

-- the failures of a case, by its first file or folder of kinds that holds none or is not there, if there is one
abbrev pub FailsKinds : List LoadedFile → Case → Option Loaded → List Failure → Type 0
FailsKinds loads c None failures = FailsOver loads c (table_of loads c) failures
FailsKinds loads c (Some file) failures = failures ≡ no_kind loads file ∷ []

abbrev pub Fails : List LoadedFile → Case → List Failure → Type 0
Fails loads c failures = FailsKinds loads c (first_blank loads c.kinds) failures
