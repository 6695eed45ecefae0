-- The cases of a transcript, and the files that they name.
use Rattle.std.specs.Prelude.{ℕ, List, [], ◌∷◌, ◌++◌, map}
use Rattle.std.specs.List.{flat_map}
use Rattle.kapi_lines.specs.Lines.{lines_of}
use Rattle.kapi_transcripts.specs.Cases.{cases_of}
use Rattle.kapi_transcripts.specs.declared.case.Beginning.{Beginning}
use Rattle.kapi_transcripts.specs.declared.case.Beginning.TheVariants as beginning
use Rattle.kapi_transcripts.specs.declared.case.Case.{Case}

-- the cases of a transcript
abbrev pub cases_in : List ℕ → List Case
cases_in transcript = cases_of (lines_of transcript)

-- the names of the files that a case begins with
abbrev pub names_of : Beginning → List (List ℕ)
names_of beginning.Opening = []
names_of (beginning.Lines file) = file.name ∷ []
names_of (beginning.Manifests m) = map (λ f. f.name) m.files

-- the names of the files that a case has: its files of kinds, and those that it begins with
abbrev pub names_in : Case → List (List ℕ)
names_in c = map (λ f. f.name) c.kinds ++ names_of c.begins

-- the names of the files that a transcript's cases have
abbrev pub loaded_names : List ℕ → List (List ℕ)
loaded_names transcript = flat_map names_in (cases_in transcript)
