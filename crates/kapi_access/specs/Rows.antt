-- Gains and ways as rows; JSON objects have their keys in the order of their bytes.
use Rattle.std.specs.Prelude.{ℕ, List, [], ◌∷◌, ◌++◌, codes}
use Rattle.serde_json.specs.Data.{number, string, object, unsigned, Members, no_members, member}
use Rattle.serde_json.specs.Written.{compact_text}
use Rattle.kapi_model.specs.Kinds.{role_kind_text}
use Rattle.kapi_policy.specs.Decided.{Binding}
use Rattle.kapi_access.specs.Gained.{Gained, GainedRule}
use Rattle.kapi_access.specs.Risks.{is_grave}
use Rattle.kapi_access.specs.Who.{Way}
use Rattle.kapi_access.specs.declared.grantee.Grantee.{Grantee}
use Rattle.kapi_reply.specs.Status.{atom_list}
use Rattle.kapi_report.specs.Reports.{Told}
use Rattle.kapi_access.specs.Cells.{binding_kind, binding_text, by_text, mark, namespace_text, rule_text, subject_kind, subject_name, subject_text, words_of_rule}

-- a binding, the index of its role's rule, and a subject
abbrev pub bound_members : Grantee → Binding → ℕ → Members
bound_members to b rule =
    member (codes "binding") (string b.name)
    (member (codes "bindingKind") (string (binding_kind b.kind))
    (member (codes "namespace") (string b.namespace)
    (member (codes "role") (string b.role.name)
    (member (codes "roleKind") (string (role_kind_text b.role.kind))
    (member (codes "rule") (number (unsigned rule))
    (member (codes "subject") (string (subject_name to))
    (member (codes "subjectKind") (string (subject_kind to)) no_members)))))))

-- what a subject gains where, and by what
abbrev pub gain_row : Gained → Told
gain_row g = record {
  cells = subject_text g.to ∷ namespace_text g.binding.namespace ∷ compact_text (atom_list g.gain) ∷ by_text g.binding g.rule ∷ [];
  object = compact_text (object (member (codes "atom") (atom_list g.gain) (bound_members g.to g.binding g.rule)));
}

-- what a subject gains by a rule where, and by what; JSON has the atoms instead
abbrev pub gained_rule_row : GainedRule → Told
gained_rule_row g = record {
  cells =
      subject_text g.to ∷ namespace_text g.binding.namespace ∷ (mark (is_grave g.gain) ++ words_of_rule g.gain) ∷ by_text g.binding g.rule ∷ [];
  object = [];
}

-- by what a subject may do something where
abbrev pub way_row : Way → Told
way_row w = record {
  cells = subject_text w.to ∷ namespace_text w.binding.namespace ∷ binding_text w.binding ∷ rule_text w.binding.role w.rule ∷ [];
  object = compact_text (object (bound_members w.to w.binding w.rule));
}

-- the row of the group whose members may do everything, without a binding
abbrev pub masters_row : List (List ℕ) → Told
masters_row cells = record { cells = cells; object = codes "{\"subject\":\"system:masters\",\"subjectKind\":\"Group\"}" }
