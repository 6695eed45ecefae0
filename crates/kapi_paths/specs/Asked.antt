-- Which requests a policy allows a subject alone, and the steps that stand for them.
use Rattle.std.specs.Prelude.{◌≡◌, ◌⊎◌, ℕ, ◌==◌, Bool, true, false, ◌&&◌, ◌||◌, List, [], length, codes}
use Rattle.std.specs.List.{list_any}
use Rattle.std.specs.Option.{unwrap_or}
use Rattle.std.specs.Str.{bytes_eq}
use Rattle.kapi_model.specs.declared.identity.Identity.{Identity}
use Rattle.kapi_model.specs.declared.kinds.RoleKind.TheVariants as role_kind
use Rattle.kapi_model.specs.declared.policy_rule.PolicyRule.{PolicyRule}
use Rattle.kapi_rules.specs.declared.point.Point.{Point}
use Rattle.kapi_rules.specs.declared.point.Point.TheVariants as point
use Rattle.kapi_policy.specs.All.{all_bindings}
use Rattle.kapi_policy.specs.Decided.{decided, rules_of}
use Rattle.kapi_policy.specs.Laws.{is_allowed}
use Rattle.kapi_policy.specs.Objects.{PolicyObjects}
use Rattle.kapi_paths.specs.Graphs.{next_of}
use Rattle.kapi_paths.specs.Rights.{Row}
use Rattle.kapi_paths.specs.Steps.{has_right}
use Rattle.kapi_paths.specs.declared.node.Node.{Node}
use Rattle.kapi_paths.specs.declared.node.NodeKind.{NodeKind}
use Rattle.kapi_paths.specs.declared.node.NodeKind.TheVariants as kind
use Rattle.kapi_paths.specs.declared.right.Names.{Names}
use Rattle.kapi_paths.specs.declared.right.Names.TheVariants as names
use Rattle.kapi_paths.specs.declared.steps.Known.{Known}

abbrev pub is_subject : NodeKind → Bool
is_subject kind.User = true
is_subject kind.Group = true
is_subject kind.Account = true
is_subject other = false

-- ---- requests

-- the request of a right for an object of the name
abbrev pub request : Row → List ℕ → Point
request row name = point.Resource (record { verb = row.verb; group = row.group; resource = row.resource; subresource = row.subresource; name = name })

-- the right is asked for the name
abbrev pub IsAsked : Names → List ℕ → Type 0
IsAsked names.Unnamed name = name ≡ []
IsAsked names.Any name = Unit {0}
IsAsked names.Signer name = (name ≡ codes "kubernetes.io/kube-apiserver-client") ⊎ (name ≡ codes "kubernetes.io/*")

-- the policy allows the identity a request of the right in the namespace, or cluster-wide if that is empty
pub record MayAsk (objects : PolicyObjects) (identity : Identity) (place : List ℕ) (row : Row) : Type 0 where
  pub name : List ℕ
  pub asked : IsAsked row.names name
  pub allowed : is_allowed (decided objects identity place (request row name)) ≡ true

-- ---- steps

-- the rules of the role that a node holds
abbrev pub rules_at : PolicyObjects → NodeKind → List ℕ → List ℕ → List PolicyRule
rules_at objects kind.Role place name = unwrap_or (rules_of objects (record { kind = role_kind.Role; name = name }) place) []
rules_at objects kind.ClusterRole place name = unwrap_or (rules_of objects (record { kind = role_kind.ClusterRole; name = name }) place) []
rules_at objects other place name = []

abbrev pub is_everything : NodeKind → Bool
is_everything kind.Everything = true
is_everything other = false

-- the node is everything, or holds a role in the namespace or cluster-wide, some rule of which passes
abbrev pub gives : PolicyObjects → List ℕ → (PolicyRule → Bool) → Node → Bool
gives objects place test n =
    is_everything n.kind || ((length n.place == 0 || bytes_eq n.place place) && list_any test (rules_at objects n.kind n.place n.name))

-- a step leads the node to everything, or to a role in the namespace or cluster-wide that has the right
abbrev pub has_step : PolicyObjects → Known → List Row → Node → List ℕ → Row → Bool
has_step objects known rows n place row = list_any (gives objects place (has_right row)) (next_of objects (all_bindings objects) known rows n)
