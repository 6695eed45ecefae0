-- What an identity has, as it is printed.
use Rattle.std.specs.Prelude.{ℕ, Bool, if◌then◌else◌, List, [], ◌∷◌, ◌++◌, codes, map}
use Rattle.std.specs.List.{join_by}
use Rattle.serde_json.specs.Data.{Data, array, number, string, object, unsigned, no_members, member}
use Rattle.serde_json.specs.View.{items_of}
use Rattle.serde_json.specs.Written.{compact_text}
use Rattle.kapi_model.specs.Identities.{is_master}
use Rattle.kapi_model.specs.Kinds.{role_kind_text}
use Rattle.kapi_object.specs.Contents.{rule_tree}
use Rattle.kapi_policy.specs.Objects.{PolicyObjects}
use Rattle.kapi_access.specs.Given.{lines_within, what_lines}
use Rattle.kapi_access.specs.declared.rights_of.GivenBy.{GivenBy}
use Rattle.kapi_access.specs.declared.scoped.ScopedRule.{ScopedRule}
use Rattle.kapi_access.specs.Cells.{binding_kind, listed, namespace_text, targets, text_of_grant, without_comma}
use Rattle.kapi_access.specs.Rows.{masters_row}
use Rattle.kapi_report.specs.Reports.{Told, report}
use Rattle.kapi_lines.specs.declared.form.Form.{Form}
use Rattle.kapi_access.specs.declared.rights.Holder.{Holder}

-- ---- cells

-- by what a rule is given
abbrev pub given_text : GivenBy → List ℕ
given_text by = text_of_grant by.kind by.binding by.role by.rule

-- all by what a rule is given, with semicolons between
abbrev pub all_given : List GivenBy → List ℕ
all_given list = join_by (λ text. text) (codes "; ") (map given_text list)

-- ---- rows

-- a binding and the index of its role's rule
abbrev pub given_tree : GivenBy → Data
given_tree by =
    object (member (codes "binding") (string by.binding)
    (member (codes "bindingKind") (string (binding_kind by.kind))
    (member (codes "role") (string by.role.name)
    (member (codes "roleKind") (string (role_kind_text by.role.kind))
    (member (codes "rule") (number (unsigned by.rule)) no_members)))))

-- a rule as objects write it, its namespace, empty where it counts everywhere, and by what it is given
unfoldable pub right_tree : ScopedRule × List GivenBy → Data
right_tree line =
    object (member (codes "by") (array (items_of (map given_tree line.1)))
    (member (codes "namespace") (string line.0.namespace)
    (member (codes "rule") (rule_tree line.0.rule) no_members)))

-- a rule, its scope, and by what it is given
abbrev pub right_row : ScopedRule × List GivenBy → Told
right_row line = record {
  cells =
      listed line.0.rule.verbs ∷ without_comma (targets line.0.rule) ∷ listed line.0.rule.resource_names ∷ namespace_text line.0.namespace
      ∷ all_given line.1 ∷ [];
  object = compact_text (right_tree line);
}

-- the first row for a member of `system:masters`, who may do everything, without a binding
abbrev pub first_rows : Bool → List Told
first_rows master =
    if master then masters_row (codes "*" ∷ codes "*" ∷ codes "-" ∷ codes "*" ∷ codes "Group system:masters" ∷ []) ∷ [] else []

-- ---- the answer

-- rows of rights as they are printed
abbrev pub rights_report : Form → List Told → List ℕ
rights_report f rows =
    report f (codes "VERBS" ∷ codes "RESOURCES" ∷ codes "NAMES" ∷ codes "SCOPE" ∷ codes "BY" ∷ []) (codes "Nothing is allowed.\n") rows

-- what is printed of lines, and whether of a member of `system:masters`
abbrev pub rights_text : Form → Bool → List (ScopedRule × List GivenBy) → List ℕ
rights_text f master lines = rights_report f (first_rows master ++ map right_row lines)

-- what a user has
abbrev pub what_text : Form → PolicyObjects → Holder → List ℕ
what_text f objects h = rights_text f (is_master h.identity) (lines_within h.within (what_lines objects h.identity))
