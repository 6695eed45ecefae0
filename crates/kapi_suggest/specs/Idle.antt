-- What a policy gives and nobody used.
use Rattle.std.specs.Prelude.{ℕ, Bool, ◌&&◌, if◌then◌else◌, List, [], ◌∷◌}
use Rattle.std.specs.List.{enumerate_from, flat_map, list_any}
use Rattle.kapi_model.specs.Subjects.{subject_matches}
use Rattle.kapi_model.specs.declared.policy_rule.PolicyRule.{PolicyRule}
use Rattle.kapi_rules.specs.Rules.{allows}
use Rattle.kapi_policy.specs.All.{all_bindings}
use Rattle.kapi_policy.specs.Decided.{Binding}
use Rattle.kapi_policy.specs.Objects.{PolicyObjects}
use Rattle.kapi_policy.specs.Views.{binding_of}
use Rattle.kapi_access.specs.Grantees.{role_of}
use Rattle.kapi_reviews.specs.declared.question.Question.{Question}
use Rattle.kapi_suggest.specs.Uses.{counts}
use Rattle.kapi_suggest.specs.declared.idle.Unused.{Unused}

-- the binding gives its role to who used it, where it was used, and the rule allows it
abbrev pub serves : Binding → PolicyRule → Question → Bool
serves b rule u =
    list_any (λ s. subject_matches s b.namespace u.identity) b.subjects && (counts b.namespace u.namespace && allows rule u.point)

-- some use needs the rule, as the binding gives it
abbrev pub is_used : List Question → Binding → PolicyRule → Bool
is_used uses b rule = list_any (serves b rule) uses

-- a binding, and the index of its role's rule
pub record UnusedRule : Type 0 where
  pub binding : Binding
  pub rule : ℕ

-- the rule, if no use needs it
abbrev pub unused_rule : List Question → Binding → ℕ × PolicyRule → List UnusedRule
unused_rule uses b numbered = if is_used uses b numbered.1 then [] else record { binding = b; rule = numbered.0 } ∷ []

-- of some rules of the binding's role those that no use needs, by their indexes
abbrev pub unused_rules : List Question → Binding → ℕ × List PolicyRule → List UnusedRule
unused_rules uses b numbered = flat_map (unused_rule uses b) (enumerate_from numbered.0 numbered.1)

-- the rules that bindings give and no use needs
unfoldable pub unused : PolicyObjects → List Question → List UnusedRule
unused objects uses = flat_map (λ b. unused_rules uses b (0, role_of objects b)) (all_bindings objects)

-- one without its references
abbrev pub unused_of : Unused → UnusedRule
unused_of u = record { binding = binding_of u.binding; rule = u.rule }
