-- What an identity has, and by what (Kubernetes, 'Using RBAC Authorization', 'RoleBinding and ClusterRoleBinding').
use Rattle.std.specs.Prelude.{ℕ, ◌==◌, Bool, ◌&&◌, ◌||◌, if◌then◌else◌, List, [], ◌∷◌, ◌++◌, length, Option, Some, None, true}
use Rattle.std.specs.BTreeMap.{insert_entry, is_at}
use Rattle.std.specs.List.{enumerate_from, filter, flat_map, fold}
use Rattle.std.specs.Map.{lookup, remove_entry}
use Rattle.std.specs.Option.{unwrap_or}
use Rattle.std.specs.Str.{bytes_eq}
use Rattle.kapi_model.specs.declared.identity.Identity.{Identity}
use Rattle.kapi_model.specs.declared.policy_rule.PolicyRule.{PolicyRule}
use Rattle.kapi_rules.specs.Rules.{allows}
use Rattle.kapi_rules.specs.declared.point.Point.{Point}
use Rattle.kapi_policy.specs.All.{all_bindings}
use Rattle.kapi_policy.specs.Decided.{Binding, given}
use Rattle.kapi_policy.specs.Objects.{PolicyObjects}
use Rattle.kapi_access.specs.Scoped.{scoped_cmp}
use Rattle.kapi_access.specs.declared.rights_of.Given.{Given}
use Rattle.kapi_access.specs.declared.rights_of.GivenBy.{GivenBy}
use Rattle.kapi_access.specs.declared.scoped.ScopedRule.{ScopedRule}

-- what of a rule counts in the namespace, or everywhere if that is empty: a request for a URL has no namespace
abbrev pub counting_in : List ℕ → PolicyRule → PolicyRule
counting_in namespace rule = if length namespace == 0 then rule else record rule { non_resource_urls = [] }

-- the rule has neither resources nor URLs
abbrev pub is_bare : PolicyRule → Bool
is_bare rule = length rule.resources == 0 && length rule.non_resource_urls == 0

-- the rule, by its number among those of the binding's role
abbrev pub given_as : Binding → ℕ → PolicyRule → Given
given_as b number rule = record {
  at = record { rule = rule; namespace = b.namespace };
  by = record { kind = b.kind; binding = b.name; role = b.role; rule = number };
}

-- what the binding gives of the rule of that number, if anything
abbrev pub given_at : Binding → ℕ × PolicyRule → List Given
given_at b numbered =
    if is_bare (counting_in b.namespace numbered.1) then [] else given_as b numbered.0 (counting_in b.namespace numbered.1) ∷ []

-- what the binding gives of some rules
abbrev pub all_given : Binding → List PolicyRule → List Given
all_given b rules = flat_map (given_at b) (enumerate_from 0 rules)

-- what a binding gives the identity
unfoldable pub given_by : PolicyObjects → Identity → Binding → List Given
given_by objects identity b = all_given b (unwrap_or (given objects identity b) [])

-- what all bindings give the identity, in their order
unfoldable pub what : PolicyObjects → Identity → List Given
what objects identity = flat_map (given_by objects identity) (all_bindings objects)

-- the rule counts in the namespace, or everywhere, and allows the point
abbrev pub allows_at : List ℕ → Point → ScopedRule → Bool
allows_at namespace p s = (length s.namespace == 0 || bytes_eq s.namespace namespace) && allows s.rule p

-- ---- lines

-- by what the rule is given so far
abbrev pub given_so_far : List (ScopedRule × List GivenBy) → ScopedRule → List GivenBy
given_so_far lines at = unwrap_or (lookup (is_at (scoped_cmp at)) lines) []

-- the lines with one rule more: at the end of its own line, or as a new one
abbrev pub with_given : List (ScopedRule × List GivenBy) → Given → List (ScopedRule × List GivenBy)
with_given lines g = insert_entry scoped_cmp (remove_entry (is_at (scoped_cmp g.at)) lines) g.at (given_so_far lines g.at ++ g.by ∷ [])

-- a line for each rule and scope, with all by what it is given, in the order of the rules' entries
abbrev pub lines_of : List Given → List (ScopedRule × List GivenBy)
lines_of list = fold with_given [] list

-- the lines of what an identity has
abbrev pub what_lines : PolicyObjects → Identity → List (ScopedRule × List GivenBy)
what_lines objects identity = lines_of (what objects identity)

-- what counts in a namespace, or everywhere where that is empty, is asked for: all without a namespace
abbrev pub is_within : Option (List ℕ) → List ℕ → Bool
is_within None namespace = true
is_within (Some asked) namespace = length namespace == 0 || bytes_eq namespace asked

-- the lines that are asked for
abbrev pub lines_within : Option (List ℕ) → List (ScopedRule × List GivenBy) → List (ScopedRule × List GivenBy)
lines_within within lines = filter (λ l. is_within within l.0.namespace) lines
