-- How far a client's lines were answered.
use Rattle.std.specs.Prelude.{◌≡◌, ◌==◌, false, All, ℕ, List, ◌++◌, Option}
use Rattle.std.specs.Io.KnownBytes.{Appends}
use Rattle.kapi_publishing.specs.Boards.{Chair}
use Rattle.kapi_model.specs.declared.row.ResourceRow.{ResourceRow}
use Rattle.kapi_script.specs.Scripts.{lines}
use Rattle.kapi_audit.specs.Reports.{AreReported}

-- the rest of all lines is still to be answered, by a seat that has seen so much, behind what was written
abbrev pub ToldSoFar : ResourceRow → Chair → List (List ℕ) → List (List ℕ) → Chair → Option (List ℕ) → Option (List ℕ) → Type 0
ToldSoFar row first all rest seat before contents =
    (written : List ℕ) × ((text : List ℕ) (last : Chair) → AreReported row seat rest text last → AreReported row first all (written ++ text) last)
    × Appends before contents written

-- in the midst of a line: what was read of it, and the bytes that were not yet read
abbrev pub Reading : ResourceRow → Chair → List (List ℕ) → List ℕ → List ℕ → Chair → Option (List ℕ) → Option (List ℕ) → Type 0
Reading row first all unread line seat before contents =
    All (λ b. (b == 10) ≡ false) line × ToldSoFar row first all (lines (line ++ unread)) seat before contents
