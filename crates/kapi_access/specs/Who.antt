-- Who may do something (Kubernetes, 'Authorization Overview', 'Checking API access').
use Rattle.std.specs.Prelude.{◌≡◌, ◌==◌, ◌&&◌, ◌||◌, ℕ, List, [], ◌∷◌, ◌++◌, length, Bool, true, false, if◌then◌else◌, map, Option, Some, None}
use Rattle.std.specs.List.{flat_map, fold, list_any, position}
use Rattle.std.specs.Str.{bytes_eq}
use Rattle.kapi_model.specs.declared.policy_rule.PolicyRule.{PolicyRule}
use Rattle.kapi_model.specs.declared.identity.Identity.{Identity}
use Rattle.kapi_rules.specs.declared.point.Point.{Point}
use Rattle.kapi_rules.specs.declared.point.Point.TheVariants as point
use Rattle.kapi_rules.specs.Rules.{allows}
use Rattle.kapi_policy.specs.All.{all_bindings}
use Rattle.kapi_policy.specs.Decided.{Binding, bindings_in}
use Rattle.kapi_policy.specs.Objects.{PolicyObjects}
use Rattle.kapi_access.specs.declared.grantee.Grantee.{Grantee}
use Rattle.kapi_access.specs.declared.grantee.Grantee.TheVariants as grantee
use Rattle.kapi_access.specs.declared.first_ways.Listed.{Listed}
use Rattle.kapi_access.specs.declared.first_ways.Listed.TheVariants as listed
use Rattle.kapi_access.specs.declared.question.Scope.{Scope}
use Rattle.kapi_access.specs.declared.question.Scope.TheVariants as scope
use Rattle.kapi_access.specs.Grantees.{grantees, matches, role_of}

-- a request for a URL has no namespace
abbrev pub IsRequest : List ℕ → Point → Type 0
IsRequest namespace (point.Resource p) = Unit {0}
IsRequest namespace (point.Url p) = namespace ≡ []

-- a user or group, with the binding and the index of its role's rule by which it may
pub record Way : Type 0 where
  pub to : Grantee
  pub binding : Binding
  pub rule : ℕ

-- each grantee of the binding by that rule, if there is one
abbrev pub ways_by : Binding → Option ℕ → List Way
ways_by b None = []
ways_by b (Some rule) = map (λ to. record { to = to; binding = b; rule = rule }) (grantees b)

-- the grantees of the binding, by the first of its role's rules that passes the test
abbrev pub ways_of : PolicyObjects → (PolicyRule → Bool) → Binding → List Way
ways_of objects test b = ways_by b (position test (role_of objects b))

-- to whom a rule that passes the test is given, and by what
abbrev pub ways : PolicyObjects → (PolicyRule → Bool) → List Binding → List Way
ways objects test bindings = flat_map (ways_of objects test) bindings

-- both are the same user, or the same group
abbrev pub same_grantee : Grantee → Grantee → Bool
same_grantee (grantee.User a) (grantee.User b) = bytes_eq a b
same_grantee (grantee.Group a) (grantee.Group b) = bytes_eq a b
same_grantee (grantee.User a) (grantee.Group b) = false
same_grantee (grantee.Group a) (grantee.User b) = false

-- ways that were found, and how often each user and group is listed among them
pub record FoundWays : Type 0 where
  pub listed : Listed
  pub list : List Way

-- within what a way is its grantee's only one: within all of them, or within its binding's scope
abbrev pub within : Listed → Way → List ℕ
within listed.Once w = []
within listed.InEachScope w = w.binding.namespace

-- some way that was found is the grantee's there
abbrev pub is_told : FoundWays → List ℕ → Grantee → Bool
is_told f there to = list_any (λ w. bytes_eq there (within f.listed w) && same_grantee to w.to) f.list

-- what was found and the way behind it, unless it has one of that grantee there
abbrev pub with_way : FoundWays → Way → FoundWays
with_way f way = record { listed = f.listed; list = if is_told f (within f.listed way) way.to then f.list else f.list ++ way ∷ [] }

-- of each user and group its first way, of all or in each scope
abbrev pub first_ways : Listed → List Way → List Way
first_ways l list = (fold with_way (record { listed = l; list = [] }) list).list

-- no two ways are the same grantee's in the same place
abbrev pub IsEachOnce : Listed → List Way → Type 0
IsEachOnce l [] = Unit
IsEachOnce l (w ∷ list) = (is_told (record { listed = l; list = list }) (within l w) w.to ≡ false) × IsEachOnce l list

-- who may make the request in the namespace, members of `system:masters` apart
unfoldable pub who_may : PolicyObjects → List ℕ → Point → List Way
who_may objects namespace p = first_ways listed.Once (ways objects (λ rule. allows rule p) (bindings_in objects namespace))

-- who may make the request anywhere, once in each scope in which a binding gives it, members of `system:masters` apart
unfoldable pub who_anywhere : PolicyObjects → Point → List Way
who_anywhere objects p = first_ways listed.InEachScope (ways objects (λ rule. allows rule p) (all_bindings objects))

-- who may make the request there
abbrev pub who_in : PolicyObjects → Scope → Point → List Way
who_in objects (scope.Namespace n) p = who_may objects n p
who_in objects scope.Cluster p = who_may objects [] p
who_in objects scope.Everywhere p = who_anywhere objects p

-- some line names the identity
abbrev pub is_named : List Way → Identity → Bool
is_named list identity = list_any (λ w. matches w.to identity) list

-- the binding counts in the namespace
abbrev pub counts : List ℕ → Binding → Bool
counts namespace b = length b.namespace == 0 || bytes_eq b.namespace namespace

-- the binding counts there
abbrev pub counts_in : Scope → Binding → Bool
counts_in (scope.Namespace n) b = counts n b
counts_in scope.Cluster b = counts [] b
counts_in scope.Everywhere b = true

-- how often each user and group is listed there
abbrev pub listed_in : Scope → Listed
listed_in (scope.Namespace n) = listed.Once
listed_in scope.Cluster = listed.Once
listed_in scope.Everywhere = listed.InEachScope

-- some line whose binding counts in the namespace, or is cluster-wide if that is empty, names the identity
abbrev pub is_named_in : List ℕ → List Way → Identity → Bool
is_named_in namespace list identity = list_any (λ w. matches w.to identity && counts namespace w.binding) list
