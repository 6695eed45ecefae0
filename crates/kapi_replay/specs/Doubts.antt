-- Expectations of 403 for a resource that is not served.
use Rattle.std.specs.Prelude.{ℕ, Bool, false, if◌then◌else◌, List, [], ◌∷◌, codes, Option, Some, None}
use Rattle.std.specs.List.{flat_map, list_any}
use Rattle.std.specs.Str.{bytes_eq}
use Rattle.kapi_model.specs.declared.row.ResourceRow.{ResourceRow}
use Rattle.kapi_replay.specs.Kinds.{known_table}
use Rattle.kapi_transcripts.specs.declared.files.LoadedFile.{LoadedFile}
use Rattle.kapi_replay.specs.Failures.{number_at}
use Rattle.kapi_transcripts.specs.Reports.{line_at}
use Rattle.kapi_transcripts.specs.declared.failure.Doubt.{Doubt}
use Rattle.kapi_request_info.specs.declared.attributes.Attributes.{Attributes}
use Rattle.kapi_answer.specs.Route.{is_row_of}
use Rattle.kapi_rules.specs.declared.point.Point.{Point}
use Rattle.kapi_rules.specs.declared.point.Point.TheVariants as point
use Rattle.kapi_transcripts.specs.declared.case.Case.{Case}
use Rattle.kapi_transcripts.specs.declared.case.ScriptLine.{ScriptLine}
use Rattle.kapi_transcripts.specs.declared.case.Expectation.{Expectation}
use Rattle.kapi_transcripts.specs.declared.wanted.Expected.{Expected}
use Rattle.kapi_transcripts.specs.declared.wanted.Expected.TheVariants as wants
use Rattle.kapi_transcripts.specs.Asked.{attributes_of}

-- the resource of a point, if the table does not have it in this version
abbrev pub unserved_point : List ResourceRow → List ℕ → Point → Option (List ℕ)
unserved_point table version (point.Url u) = None
unserved_point table version (point.Resource p) = if list_any (is_row_of version p) table then None else Some p.resource

-- the resource of the attributes, if the table does not have it in their version
abbrev pub unserved : List ResourceRow → Option Attributes → Option (List ℕ)
unserved table None = None
unserved table (Some a) = unserved_point table a.version a.point

-- a reply of code 403 is wanted
abbrev pub wants_refusal : Expected → Bool
wants_refusal (wants.Reply code text) = bytes_eq code (codes "403")
wants_refusal w = false

-- the doubt about a line, if the resource is not served
abbrev pub doubt_about : ℕ → Option (List ℕ) → List Doubt
doubt_about n None = []
doubt_about n (Some resource) = record { number = n; resource = resource } ∷ []

-- the doubt about what is wanted: it is 403, of a request about a resource that is not served
abbrev pub doubt : List ResourceRow → List (List ℕ) → List ScriptLine → Expectation → List Doubt
doubt table lines script w =
    if wants_refusal w.wanted then doubt_about w.number (unserved table (attributes_of (line_at lines (number_at script w.events)))) else []

-- the doubts of cases
abbrev pub doubts_of : List LoadedFile → List (List ℕ) → List Case → List Doubt
doubts_of loads lines cases = flat_map (λ c. flat_map (doubt (known_table loads c) lines c.script) c.wants) cases
