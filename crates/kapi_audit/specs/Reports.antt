-- What a client of the answer port is reported, line by line.
use Rattle.std.specs.Prelude.{◌≡◌, ℕ, ◌==◌, Bool, true, false, ◌||◌, List, [], ◌∷◌, ◌++◌, length, slice_index, Option, Some, None, codes}
use Rattle.std.specs.Fmt.{decimal}
use Rattle.std.specs.Io.KnownBytes.{Appends}
use Rattle.kapi_core.specs.Table.{access_reviews_row}
use Rattle.kapi_publishing.specs.Boards.{Chair}
use Rattle.kapi_publishing.specs.Rule.{Begins}
use Rattle.kapi_publishing.specs.Steps.{after}
use Rattle.kapi_model.specs.declared.row.ResourceRow.{ResourceRow}
use Rattle.kapi_policy.specs.Decided.{decided}
use Rattle.kapi_reviews.specs.declared.question.Question.{Question}
use Rattle.kapi_script.specs.Scripts.{lines}
use Rattle.kapi_engine.specs.Lines.{decision_line}
use Rattle.kapi_engine.specs.Questions.{question_of}
use Rattle.kapi_audit.specs.declared.report.Report.{Report}
use Rattle.kapi_audit.specs.declared.report.Report.TheVariants as told

-- a seat has seen the published steps that it had seen, and maybe more behind them
pub record Learns (old new : Chair) : Type 0 where
  pub opening : new.opening ≡ old.opening
  pub seen : Begins old.seen new.seen

-- the report of a seat on a question: the decision by the policy after the steps that it has seen, and their number
abbrev pub IsDecision : Chair → Chair → Question → Report → Type 0
IsDecision old new q told.Skipped = ⊥
IsDecision old new q told.Bad = ⊥
IsDecision old new q told.Refused = Learns old new
IsDecision old new q told.Busy = new ≡ old
IsDecision old new q (told.Decided count text) =
    Learns old new × (count ≡ length new.seen) × (text ≡ decision_line (decided (after new.opening new.seen) q.identity q.namespace q.point))

-- an empty line or a comment
abbrev pub is_skipped : List ℕ → Bool
is_skipped line = length line == 0 || slice_index line 0 == 35

-- the report on a line; out of memory, or with the desk closed, its question is not read
abbrev pub Reports : ResourceRow → Chair → Chair → List ℕ → Report → Type 0
Reports row old new line told.Skipped = (is_skipped line ≡ true) × (new ≡ old)
Reports row old new line told.Bad = (is_skipped line ≡ false) × (question_of row line ≡ None) × (new ≡ old)
Reports row old new line told.Refused = (is_skipped line ≡ false) × Learns old new
Reports row old new line told.Busy = (is_skipped line ≡ false) × (new ≡ old)
Reports row old new line (told.Decided count text) = (is_skipped line ≡ false) × (q : Question) × (question_of row line ≡ Some q) × IsDecision old new q (told.Decided count text)

-- the line that is written of a report
abbrev pub report_text : Report → List ℕ
report_text told.Skipped = []
report_text told.Bad = codes "bad\n"
report_text told.Refused = codes "error Memory\n"
report_text told.Busy = codes "error Busy\n"
report_text (told.Decided count text) = (decimal count ++ codes " ") ++ text

-- the reports on lines, one after the other, by a seat that has seen no less from line to line
unfoldable pub AreReported : ResourceRow → Chair → List (List ℕ) → List ℕ → Chair → Type 0
AreReported row old [] text new = (text ≡ []) × (new ≡ old)
AreReported row old (line ∷ rest) text new =
    (report : Report) × (mid : Chair) × (later : List ℕ) × Reports row old mid line report × AreReported row mid rest later new × (text ≡ report_text report ++ later)

-- behind what was written before come the reports on all lines of a text
abbrev pub AreReportedIn : List ℕ → Chair → Chair → Option (List ℕ) → Option (List ℕ) → Type 0
AreReportedIn text old new before contents = (written : List ℕ) × AreReported access_reviews_row old (lines text) written new × Appends before contents written
