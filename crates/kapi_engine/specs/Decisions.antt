-- Decisions, and what somebody lacks.
use Rattle.std.specs.Prelude.{ℕ, if◌then◌else◌, List, [], Option, option_map}
use Rattle.kapi_model.specs.Identities.{is_master}
use Rattle.kapi_model.specs.declared.identity.Identity.{Identity}
use Rattle.kapi_model.specs.declared.policy_rule.PolicyRule.{PolicyRule}
use Rattle.kapi_model.specs.declared.role_ref.RoleRef.{RoleRef}
use Rattle.kapi_rules.specs.Missing.{missing}
use Rattle.kapi_rules.specs.declared.atom.Atom.{Atom}
use Rattle.kapi_policy.specs.Decided.{Decided, decided, held, rules_of}
use Rattle.kapi_policy.specs.Objects.{PolicyObjects}
use Rattle.kapi_reviews.specs.declared.question.Question.{Question}

-- what is decided of a question
abbrev pub decided_on : PolicyObjects → Question → Decided
decided_on policy q = decided policy q.identity q.namespace q.point

-- what an identity does not have of rules in a namespace: a member of system:masters has everything
unfoldable pub lacking : PolicyObjects → Identity → List ℕ → List PolicyRule → List Atom
lacking policy identity namespace rules = if is_master identity then [] else missing (held policy identity namespace) rules

-- what an identity does not have of the role that a binding in the namespace would refer to; none if there is no such role
unfoldable pub missing_of : PolicyObjects → Identity → List ℕ → RoleRef → Option (List Atom)
missing_of policy identity namespace role = option_map (lacking policy identity namespace) (rules_of policy role namespace)
