-- A line more of a transcript.
use Rattle.std.proofs.Common.{◌≡◌, ◌++◌, List, ◌∷◌, sym, append_assoc, Result, Ok, Err, OnOk}
use Rattle.kapi_lines.specs.Lines.{NumberedLine}
use Rattle.kapi_transcripts.specs.Cases.{PlainDraft, cases_from, ended, next}
use Rattle.kapi_transcripts.specs.Forms.{form_of}
use Rattle.kapi_transcripts.specs.declared.case.Case.{Case}
use Rattle.kapi_transcripts.specs.declared.form.Form.{Form}

-- the cases of a line and those that follow
line_first : (done : List Case) (d : PlainDraft) (l : NumberedLine) (ls : List NumberedLine)
    → done ++ cases_from d (l ∷ ls) ≡ (done ++ ended d (form_of l.text)) ++ cases_from (next d l (form_of l.text) ls) ls
unfolding cases_from
line_first done d l ls = sym (append_assoc done (ended d (form_of l.text)) (cases_from (next d l (form_of l.text) ls) ls))

-- after a line was read
pub line_read : {E : Type 0} (result : Result (Unit {0}) E) (done more : List Case) (d e : PlainDraft) (l : NumberedLine) (ls : List NumberedLine) (f : Form)
    → f ≡ form_of l.text → OnOk result (more ≡ done ++ ended d f) → OnOk result (e ≡ next d l f ls)
    → OnOk result (more ++ cases_from e ls ≡ done ++ cases_from d (l ∷ ls))
line_read (Ok u) done more d e l ls f is items draft = rw (items, draft, is) (sym (line_first done d l ls))
line_read (Err x) done more d e l ls f is items draft = tt
