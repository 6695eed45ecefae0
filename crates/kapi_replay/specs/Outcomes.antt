-- What became of transcripts.
use Rattle.std.specs.Prelude.{◌≡◌, ℕ, Bool, List, [], ◌∷◌, ◌++◌, map, Option}
use Rattle.std.specs.List.{list_all}
use Rattle.std.specs.Io.KnownBytes.{Appends}
use Rattle.kapi_lines.specs.Lines.{parts_of}
use Rattle.kapi_transcripts.specs.Loads.{cases_in}
use Rattle.kapi_transcripts.specs.declared.case.Case.{Case}
use Rattle.kapi_replay.specs.Doubts.{doubts_of}
use Rattle.kapi_replay.specs.Failures.{bare}
use Rattle.kapi_replay.specs.Playing.{Fails}
use Rattle.kapi_transcripts.specs.Reports.{is_difference, written}
use Rattle.kapi_transcripts.specs.declared.failure.Check.{Check}
use Rattle.kapi_transcripts.specs.declared.failure.Failure.{Failure}
use Rattle.kapi_transcripts.specs.declared.failure.Outcome.{Outcome}
use Rattle.kapi_transcripts.specs.declared.files.LoadedFile.{LoadedFile}
use Rattle.kapi_transcripts.specs.declared.files.Transcript.{Transcript}

-- the checks of a case with these failures: its answers were compared if these are all differences
abbrev pub checks_in : Case → List Failure → List Check
checks_in c failures = map (λ w. record { number = w.number; compared = list_all is_difference failures }) c.wants

-- failures that are the same but for their reasons
abbrev pub AreAlike : List Failure → List Failure → Type 0
AreAlike some others = map bare some ≡ map bare others

-- the checks and the failures of all cases, one case after the other
abbrev pub ArePlayed : List LoadedFile → List Case → List Check → List Failure → Type 0
ArePlayed loads [] checks failures = (checks ≡ []) × (failures ≡ [])
ArePlayed loads (c ∷ cs) checks failures =
    (others : List Check) × (found : List Failure) × (first : List Failure) × (rest : List Failure) × (checks ≡ checks_in c first ++ others)
    × (failures ≡ first ++ rest) × Fails loads c found × AreAlike first found × ArePlayed loads cs others rest

-- what became of a transcript: its name, its checks, its failures, and its doubts
pub record IsOutcome (t : Transcript) (o : Outcome) : Type 0 where
  pub name : o.name ≡ t.file.name
  pub played : ArePlayed t.loads (cases_in t.file.bytes) o.checks o.failures
  pub doubts : o.doubts ≡ doubts_of t.loads (parts_of t.file.bytes) (cases_in t.file.bytes)

-- what became of a transcript, and its report is written
abbrev pub IsReported : Bool → Transcript → Option (List ℕ) → Option (List ℕ) → Outcome → Type 0
IsReported rewrites t before contents o = IsOutcome t o × Appends before contents (written rewrites t.file.bytes o)

-- what became of all transcripts, whose reports are written in their order
abbrev pub IsReplayed : Bool → List Transcript → Option (List ℕ) → Option (List ℕ) → List Outcome → Type 0
IsReplayed rewrites [] before contents outcomes = Appends before contents [] × (outcomes ≡ [])
IsReplayed rewrites (t ∷ ts) before contents outcomes =
    (between : Option (List ℕ)) × (o : Outcome) × (rest : List Outcome) × IsReported rewrites t before between o
    × IsReplayed rewrites ts between contents rest × (outcomes ≡ o ∷ rest)
