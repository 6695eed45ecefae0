-- The answers as they are printed.
use Rattle.std.specs.Prelude.{ℕ, Bool, true, false, not, List, [], ◌∷◌, ◌++◌, codes, map}
use Rattle.std.specs.List.{filter}
use Rattle.std.specs.Str.{bytes_eq}
use Rattle.kapi_policy.specs.Objects.{PolicyObjects}
use Rattle.kapi_access.specs.Gained.{Gained, GainedRule, by_rule}
use Rattle.kapi_access.specs.Risks.{is_grave}
use Rattle.kapi_access.specs.Who.{Way, who_in}
use Rattle.kapi_access.specs.Rows.{gain_row, gained_rule_row, masters_row, way_row}
use Rattle.kapi_report.specs.Reports.{Told, report}
use Rattle.kapi_access.specs.declared.grantee.Grantee.{Grantee}
use Rattle.kapi_access.specs.declared.grantee.Grantee.TheVariants as grantee
use Rattle.kapi_lines.specs.declared.form.Form.{Form}
use Rattle.kapi_lines.specs.declared.form.Form.TheVariants as form
use Rattle.kapi_access.specs.declared.answer.Shown.{Shown}
use Rattle.kapi_access.specs.declared.answer.Shown.TheVariants as shown
use Rattle.kapi_access.specs.declared.question.ScopedPoint.{ScopedPoint}

-- the rules that give much, and then the others, each in their order
abbrev pub grave_first : List GainedRule → List GainedRule
grave_first gains = filter (λ g. is_grave g.gain) gains ++ filter (λ g. not (is_grave g.gain)) gains

-- JSON has all atoms
abbrev pub shown_in : Form → Shown → Shown
shown_in form.Json s = shown.Atoms
shown_in f s = s

-- a row for each gain
abbrev pub gain_rows : Shown → List Gained → List Told
gain_rows shown.Rules gains = map gained_rule_row (grave_first (by_rule gains))
gain_rows shown.Atoms gains = map gain_row gains

-- rows of gains as they are printed
abbrev pub gains_report : Form → List Told → List ℕ
gains_report f rows = report f (codes "SUBJECT" ∷ codes "NAMESPACE" ∷ codes "GAINS" ∷ codes "BY" ∷ []) (codes "Nobody gains.\n") rows

-- gains as they are printed
abbrev pub gains_text : Form → Shown → List Gained → List ℕ
gains_text f s gains = gains_report f (gain_rows (shown_in f s) gains)

-- the group whose members may do everything
abbrev pub is_masters : Grantee → Bool
is_masters (grantee.Group name) = bytes_eq name (codes "system:masters")
is_masters (grantee.User name) = false

-- the ways of all others
abbrev pub besides_masters : List Way → List Way
besides_masters ways = filter (λ w. not (is_masters w.to)) ways

-- rows of ways as they are printed, behind that of the group whose members may do everything
abbrev pub ways_report : Form → List Told → List ℕ
ways_report f rows =
    report f (codes "SUBJECT" ∷ codes "NAMESPACE" ∷ codes "BINDING" ∷ codes "RULE" ∷ []) []
    (masters_row (codes "Group system:masters" ∷ codes "*" ∷ codes "-" ∷ codes "everything" ∷ []) ∷ rows)

-- ways as they are printed: the group whose members may do everything, once, and then all others
abbrev pub ways_text : Form → List Way → List ℕ
ways_text f ways = ways_report f (map way_row (besides_masters ways))

-- who may do what is asked
abbrev pub who_text : Form → PolicyObjects → ScopedPoint → List ℕ
who_text f objects w = ways_text f (who_in objects w.scope w.point)

-- what holds of all who are not listed among the risks
abbrev pub settled_words : Bool → List ℕ
settled_words true =
    codes "Through roles and bindings, nothing that others without the verb impersonate write lets anybody do what neither that one nor any of them was allowed. kapi paths lists other ways.\n"
settled_words false = codes "The roles are not settled after 64 turns, so that nothing is said of all others.\n"

-- the same in a form; behind a table in Markdown stands an empty line
abbrev pub settled_line : Form → Bool → List ℕ
settled_line form.Table s = settled_words s
settled_line form.Markdown s = 10 ∷ settled_words s
settled_line form.Json true = codes "{\"settled\":true}\n"
settled_line form.Json false = codes "{\"settled\":false}\n"
