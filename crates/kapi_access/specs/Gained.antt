-- What one policy gives that another did not.
use Rattle.std.specs.Prelude.{◌≡◌, ◌⊎◌, ◌==◌, ◌&&◌, ℕ, List, [], ◌∷◌, ◌++◌, Bool, true, false, not, if◌then◌else◌, length, map, Option, Some, None}
use Rattle.std.specs.List.{enumerate_from, filter, flat_map, fold}
use Rattle.std.specs.Str.{bytes_eq}
use Rattle.kapi_model.specs.declared.policy_rule.PolicyRule.{PolicyRule}
use Rattle.kapi_model.specs.declared.identity.Identity.{Identity}
use Rattle.kapi_model.specs.Identities.{is_master}
use Rattle.kapi_rules.specs.Atoms.{after_slash, atom_allows}
use Rattle.kapi_rules.specs.Missing.{missing}
use Rattle.kapi_rules.specs.Points.{HasPlainResource}
use Rattle.kapi_rules.specs.Rules.{allows}
use Rattle.kapi_rules.specs.declared.atom.Atom.{Atom}
use Rattle.kapi_rules.specs.declared.atom.Atom.TheVariants as atom
use Rattle.kapi_rules.specs.declared.point.Point.{Point}
use Rattle.kapi_policy.specs.All.{all_bindings}
use Rattle.kapi_policy.specs.Decided.{Binding, held}
use Rattle.kapi_policy.specs.Objects.{PolicyObjects}
use Rattle.kapi_aggregation.specs.Members.{Has}
use Rattle.kapi_escalation_laws.specs.Access.{may}
use Rattle.kapi_access.specs.declared.grantee.Grantee.{Grantee}
use Rattle.kapi_access.specs.declared.identities.Identities.{Identities}
use Rattle.kapi_access.specs.Grantees.{alone, grantees, matches, role_of, unbound_user}
use Rattle.kapi_access.specs.Together.{together}
use Rattle.kapi_access.specs.Usual.{IsMeant}
use Rattle.kapi_access.specs.Who.{IsRequest, same_grantee}

-- a user or group that gains an atom, and by what: a binding, and the index of a rule of its role
pub record Gained : Type 0 where
  pub to : Grantee
  pub binding : Binding
  pub rule : ℕ
  pub gain : Atom

-- the text is there and empty
abbrev pub is_nothing : Option (List ℕ) → Bool
is_nothing None = false
is_nothing (Some []) = true
is_nothing (Some (b ∷ text)) = false

-- some request in the namespace matches the atom: the first slash of its resource is not its last byte, as in `pods/`, and for a URL
-- the namespace is empty
abbrev pub can_match : List ℕ → Atom → Bool
can_match namespace (atom.Resource a) = not (is_nothing (after_slash a.resource))
can_match namespace (atom.Url a) = length namespace == 0

-- the atoms of the rule that one lacks in the namespace who holds those rules there
unfoldable pub new_atoms : List ℕ → List PolicyRule → PolicyRule → List Atom
new_atoms namespace own rule = filter (can_match namespace) (missing own (rule ∷ []))

-- a line for each atom of the rule that the grantee lacks
abbrev pub lines_by : List PolicyRule → Grantee → Binding → ℕ × PolicyRule → List Gained
lines_by own to b numbered =
    map (λ a. record { to = to; binding = b; rule = numbered.0; gain = a }) (new_atoms b.namespace own numbered.1)

-- a line for each atom of the rules that the grantee lacks
abbrev pub lines_of : List PolicyRule → Grantee → Binding → List PolicyRule → List Gained
lines_of own to b rules = flat_map (lines_by own to b) (enumerate_from 0 rules)

-- what the identity gains by the binding for the grantee whose own it is; masters may do everything before and after
abbrev pub gained_as : PolicyObjects → Identity → Grantee → Binding → List PolicyRule → List Gained
gained_as before own to b rules =
    if is_master own then [] else lines_of (held before own b.namespace) to b rules

-- what the grantee gains by the binding
abbrev pub gained_by : Identities → PolicyObjects → PolicyObjects → Binding → Grantee → List Gained
gained_by who before after b to = gained_as before (alone who (unbound_user before) to) to b (role_of after b)

-- what the grantees of a binding gain by it
unfoldable pub gained_from : Identities → PolicyObjects → PolicyObjects → Binding → List Gained
gained_from who before after b = flat_map (gained_by who before after b) (grantees b)

-- what anybody of those identities gains by a binding of the policy after
unfoldable pub gained : Identities → PolicyObjects → PolicyObjects → List Gained
gained who before after = flat_map (gained_from who before after) (all_bindings after)

-- a line of the report covers the request
pub record IsReported (list : List Gained) (identity : Identity) (namespace : List ℕ) (p : Point) : Type 0 where
  pub line : Gained
  pub listed : Has list line
  pub meant : matches line.to identity ≡ true
  pub there : (line.binding.namespace ≡ []) ⊎ (line.binding.namespace ≡ namespace)
  pub allowed : atom_allows line.gain p ≡ true

-- somebody of those identities whom the line names may make a request that its atom allows, where its binding counts, and could not before
pub record IsGained (who : Identities) (before after : PolicyObjects) (line : Gained) : Type 0 where
  pub identity : Identity
  pub among : IsMeant who identity
  pub request : Point
  pub plain : HasPlainResource request
  pub asked : IsRequest line.binding.namespace request
  pub meant : matches line.to identity ≡ true
  pub by_atom : atom_allows line.gain request ≡ true
  pub now : may after identity line.binding.namespace request ≡ true
  pub not_before : may before identity line.binding.namespace request ≡ false

-- each request that is allowed to anybody of those identities now was allowed before
abbrev pub GivesNothingTo : Identities → PolicyObjects → PolicyObjects → Type 0
GivesNothingTo who before after =
    (identity : Identity) (namespace : List ℕ) (p : Point) → IsMeant who identity → HasPlainResource p → IsRequest namespace p
    → may after identity namespace p ≡ true → may before identity namespace p ≡ true

-- ---- by rules

-- the atoms that a user or group gains by a binding and one rule of its role, given by its index
pub record GainedAtoms : Type 0 where
  pub to : Grantee
  pub binding : Binding
  pub rule : ℕ
  pub atoms : List Atom

-- a user or group that gains what a rule allows, and by what: a binding, and the index of a rule of its role
pub record GainedRule : Type 0 where
  pub to : Grantee
  pub binding : Binding
  pub rule : ℕ
  pub gain : PolicyRule

-- the gain is the same grantee's, by the same binding and rule; a policy has one binding of a namespace and name
abbrev pub is_alike : GainedAtoms → Gained → Bool
is_alike l g = l.rule == g.rule && (same_grantee l.to g.to && (bytes_eq l.binding.namespace g.binding.namespace && bytes_eq l.binding.name g.binding.name))

-- the lines with a gain more: in the last one if it is alike, else in a line of its own
unfoldable pub with_gain : List GainedAtoms → Gained → List GainedAtoms
with_gain [] g = record { to = g.to; binding = g.binding; rule = g.rule; atoms = g.gain ∷ [] } ∷ []
with_gain (l ∷ []) g =
    if is_alike l g then record l { atoms = l.atoms ++ g.gain ∷ [] } ∷ []
    else l ∷ record { to = g.to; binding = g.binding; rule = g.rule; atoms = g.gain ∷ [] } ∷ []
with_gain (l ∷ m ∷ lines) g = l ∷ with_gain (m ∷ lines) g

-- the rules that the atoms of a line make together
abbrev pub rules_gained : GainedAtoms → List GainedRule
rules_gained l = map (λ r. record { to = l.to; binding = l.binding; rule = l.rule; gain = r }) (together l.atoms)

-- gains in their order, those of one grantee by one binding and rule put together
unfoldable pub by_rule : List Gained → List GainedRule
by_rule gains = flat_map rules_gained (fold with_gain [] gains)

-- a line of the report by rules covers the request
pub record IsReportedByRule (list : List GainedRule) (identity : Identity) (namespace : List ℕ) (p : Point) : Type 0 where
  pub line : GainedRule
  pub listed : Has list line
  pub meant : matches line.to identity ≡ true
  pub there : (line.binding.namespace ≡ []) ⊎ (line.binding.namespace ≡ namespace)
  pub allowed : allows line.gain p ≡ true
