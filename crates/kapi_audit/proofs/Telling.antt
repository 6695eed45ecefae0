-- Lines of a client, byte by byte.
use Rattle.std.proofs.Common.{◌≡◌, ◌==◌, ℕ, ◌+◌, ◌<◌, ◌≤◌, false, List, [], ◌∷◌, ◌++◌, Option, Result, Ok, Err, OnOk, refl, sym, arith, subst, ap, ◌∙◌, append-nil, append_assoc, length, drop, get_or, drop-cons, add-one}
use Rattle.std.specs.Io.KnownBytes.{Appends}
use Rattle.std.proofs.lemmas.List.{drop_all}
use Rattle.std.proofs.lemmas.List.Elements.{All-append, All-cons, All-nil}
use Rattle.std.proofs.lemmas.List.Splits.{slice_split_at, slice_split_none}
use Rattle.kapi_core.specs.Table.{access_reviews_row}
use Rattle.kapi_publishing.specs.Boards.{Chair}
use Rattle.kapi_model.specs.declared.row.ResourceRow.{ResourceRow}
use Rattle.kapi_lines.proofs.Appending.{appends_more, appends_nothing}
use Rattle.kapi_script.specs.Scripts.{lines}
use Rattle.kapi_audit.specs.Private.Reading.{Reading, ToldSoFar}
use Rattle.kapi_audit.specs.Reports.{AreReportedIn, Reports, AreReported, report_text}
use Rattle.kapi_audit.specs.declared.fault.AnswerFault.{AnswerFault}
use Rattle.kapi_audit.specs.declared.report.Report.{Report}

-- one line more is reported on
one_more : (row : ResourceRow) (old mid : Chair) (line : List ℕ) (rest : List (List ℕ)) (report : Report) (text : List ℕ) (last : Chair) → Reports row old mid line report
    → AreReported row mid rest text last → AreReported row old (line ∷ rest) (report_text report ++ text) last
unfolding AreReported
one_more row old mid line rest report text last h k = (report, mid, text, h, k, refl)

-- a line was answered, and its answer written or not
pub line_told : (row : ResourceRow) (first old mid : Chair) (all rest : List (List ℕ)) (line : List ℕ) (report : Report) (before c d : Option (List ℕ)) (result : Result (Unit {0}) AnswerFault)
    → Reports row old mid line report → OnOk result (Appends c d (report_text report)) → ToldSoFar row first all (line ∷ rest) old before c
    → OnOk result (ToldSoFar row first all rest mid before d)
line_told row first old mid all rest line report before c d (Ok done) h wrote k = (
  k.0 ++ report_text report,
  (λ text last told. subst (λ t. AreReported row first all t last) (sym (append_assoc k.0 (report_text report) text)) (k.1 (report_text report ++ text) last (one_more row old mid line rest report text last h told))),
  appends_more before c d k.0 (report_text report) k.2 wrote,
)
line_told row first old mid all rest line report before c d (Err e) h wrote k = tt

-- LF ends the line that was read
pub line_ends : (row : ResourceRow) (first seat : Chair) (all : List (List ℕ)) (byte : ℕ) (unread line items : List ℕ) (before c : Option (List ℕ)) → byte ≡ 10 → line ≡ items
    → Reading row first all (byte ∷ unread) items seat before c → ToldSoFar row first all (line ∷ lines unread) seat before c
line_ends row first seat all byte unread line items before c e f h =
    subst (λ ls. ToldSoFar row first all ls seat before c) (slice_split_at (λ b. b == 10) items byte unread h.0 (rw e refl) ∙ ap (λ l. l ∷ lines unread) (sym f)) h.1

-- the next line begins
pub line_begins : (row : ResourceRow) (first seat : Chair) (all : List (List ℕ)) (unread items : List ℕ) (before d : Option (List ℕ)) → items ≡ []
    → ToldSoFar row first all (lines unread) seat before d → Reading row first all unread items seat before d
line_begins row first seat all unread items before d e h =
    subst (λ xs. Reading row first all unread xs seat before d) (sym e) ((λ k b below. absurd (omega (arith, below))), h)

-- a byte more of a line
pub byte_pushed : (row : ResourceRow) (first seat : Chair) (all : List (List ℕ)) (byte : ℕ) (unread items longer : List ℕ) (before c : Option (List ℕ)) (result : Result (Unit {0}) AnswerFault)
    → (byte == 10) ≡ false → OnOk result (longer ≡ items ++ byte ∷ []) → Reading row first all (byte ∷ unread) items seat before c
    → OnOk result (Reading row first all unread longer seat before c)
byte_pushed row first seat all byte unread items longer before c (Ok done) other pushed h =
    let whole = All-append (λ b. (b == 10) ≡ false) items (byte ∷ []) h.0 (All-cons (λ b. (b == 10) ≡ false) byte [] other (All-nil (λ b. (b == 10) ≡ false))) in
    let there = subst (λ ls. ToldSoFar row first all (lines ls) seat before c) (sym (append_assoc items (byte ∷ []) unread)) h.1 in
    subst (λ xs. Reading row first all unread xs seat before c) (sym pushed) (whole, there)
byte_pushed row first seat all byte unread items longer before c (Err e) other pushed h = tt

-- nothing is left to be read but the last line
pub last_line : (row : ResourceRow) (first seat : Chair) (all : List (List ℕ)) (line items : List ℕ) (before c : Option (List ℕ)) → line ≡ items
    → Reading row first all [] items seat before c → ToldSoFar row first all (line ∷ []) seat before c
last_line row first seat all line items before c e h =
    subst (λ ls. ToldSoFar row first all ls seat before c) (ap lines (append-nil items) ∙ slice_split_none (λ b. b == 10) items h.0 ∙ ap (λ l. l ∷ []) (sym e)) h.1

-- the next byte that is read
pub byte_first : (row : ResourceRow) (first seat : Chair) (all : List (List ℕ)) (bytes unread items : List ℕ) (i : ℕ) (before c : Option (List ℕ)) → i < length bytes
    → Reading row first all (drop i bytes ++ unread) items seat before c → Reading row first all (get_or bytes i 0 ∷ (drop (i + 1) bytes ++ unread)) items seat before c
byte_first row first seat all bytes unread items i before c below h =
    subst (λ xs. Reading row first all (xs ++ unread) items seat before c) (drop-cons bytes i 0 below ∙ ap (λ k. get_or bytes i 0 ∷ drop k bytes) (sym (add-one i))) h

-- all bytes were read
pub bytes_end : (row : ResourceRow) (first seat : Chair) (all : List (List ℕ)) (bytes unread items : List ℕ) (i : ℕ) (before c : Option (List ℕ)) → length bytes ≤ i
    → Reading row first all (drop i bytes ++ unread) items seat before c → Reading row first all unread items seat before c
bytes_end row first seat all bytes unread items i before c over h = subst (λ xs. Reading row first all (xs ++ unread) items seat before c) (drop_all i bytes over) h

-- at the start nothing was read
pub at_start : (row : ResourceRow) (seat : Chair) (text items : List ℕ) (before : Option (List ℕ)) → items ≡ []
    → Reading row seat (lines text) text items seat before before
at_start row seat text items before none =
    line_begins row seat seat (lines text) text items before before none ([], (λ t last told. told), appends_nothing before)

-- all lines were answered
pub all_told : (row : ResourceRow) (old new : Chair) (text : List ℕ) (before contents : Option (List ℕ)) (result : Result (Unit {0}) AnswerFault) → row ≡ access_reviews_row
    → OnOk result (ToldSoFar row old (lines text) [] new before contents) → OnOk result (AreReportedIn text old new before contents)
unfolding AreReported
all_told row old new text before contents (Ok done) is h =
    let told = subst (λ t. AreReported row old (lines text) t new) (append-nil h.0) (h.1 [] new (refl, refl)) in
    (h.0, subst (λ r. AreReported r old (lines text) h.0 new) is told, h.2)
all_told row old new text before contents (Err e) is h = tt
