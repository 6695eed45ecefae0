-- The files that transcripts name.
use Rattle.std.specs.Prelude.{ℕ, List, [], ◌∷◌, Option, Some, None}
use Rattle.std.specs.List.{find}
use Rattle.std.specs.Str.{bytes_eq}
use Rattle.kapi_transcripts.specs.declared.files.LoadedFile.{LoadedFile}

-- the texts of what was found
abbrev pub texts_or : Option LoadedFile → List (List ℕ)
texts_or None = []
texts_or (Some file) = file.texts

-- the first file of that name
abbrev pub file_named : List LoadedFile → List ℕ → Option LoadedFile
file_named loads name = find (λ f. bytes_eq f.name name) loads

-- the texts that a name stands for; none if it is not there
abbrev pub texts_named : List LoadedFile → List ℕ → List (List ℕ)
texts_named loads name = texts_or (file_named loads name)

-- the text, if there is one and no other
abbrev pub only_text : List (List ℕ) → Option (List ℕ)
only_text [] = None
only_text (text ∷ []) = Some text
only_text (text ∷ other ∷ others) = None
