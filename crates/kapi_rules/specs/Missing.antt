-- What the holder of some rules lacks of others.
use Rattle.std.specs.Prelude.{◌≡◌, Bool, true, false, not, ◌&&◌, if◌then◌else◌, List, [], ◌∷◌, ◌++◌}
use Rattle.std.specs.List.{filter, flat_map, fold, list_any}
use Rattle.std.specs.Str.{bytes_eq}
use Rattle.kapi_model.specs.declared.policy_rule.PolicyRule.{PolicyRule}
use Rattle.kapi_rules.specs.Atoms.{atoms, implies}
use Rattle.kapi_rules.specs.Points.{HasPlainResource}
use Rattle.kapi_rules.specs.Rules.{allows}
use Rattle.kapi_rules.specs.declared.atom.Atom.{Atom}
use Rattle.kapi_rules.specs.declared.atom.Atom.TheVariants as atom
use Rattle.kapi_rules.specs.declared.atom.Names.{Names}
use Rattle.kapi_rules.specs.declared.atom.Names.TheVariants as names
use Rattle.kapi_rules.specs.declared.point.Point.{Point}

-- some atom of the rule implies the atom
unfoldable pub rule_implies : PolicyRule → Atom → Bool
rule_implies rule wanted = list_any (λ a. implies a wanted) (atoms rule)

-- no atom of the rules implies the atom
abbrev pub is_missing : List PolicyRule → Atom → Bool
is_missing held wanted = not (list_any (λ rule. rule_implies rule wanted) held)

-- the same names, taken literally: all names are not the name `*`
abbrev pub same_names : Names → Names → Bool
same_names names.All names.All = true
same_names names.All (names.One b) = false
same_names (names.One a) names.All = false
same_names (names.One a) (names.One b) = bytes_eq a b

-- the same atom, taken literally
abbrev pub same_atom : Atom → Atom → Bool
same_atom (atom.Resource a) (atom.Resource b) =
    bytes_eq a.verb b.verb && (bytes_eq a.group b.group && (bytes_eq a.resource b.resource && same_names a.names b.names))
same_atom (atom.Resource a) (atom.Url b) = false
same_atom (atom.Url a) (atom.Resource b) = false
same_atom (atom.Url a) (atom.Url b) = bytes_eq a.verb b.verb && bytes_eq a.url b.url

-- the list with the atom at its end, unless it is already in the list
abbrev pub with_atom : List Atom → Atom → List Atom
with_atom found a = if list_any (λ f. same_atom f a) found then found else found ++ a ∷ []

-- each atom once, at its first place
unfoldable pub each_once : List Atom → List Atom
each_once list = fold with_atom [] list

-- the atoms of the wanted rules, in order and each once, that no atom of a held rule implies
unfoldable pub missing : List PolicyRule → List PolicyRule → List Atom
missing held wanted = each_once (filter (is_missing held) (flat_map atoms wanted))

-- every point of a resource without a slash that a wanted rule allows is allowed by a held one
abbrev pub CoversAll : List PolicyRule → List PolicyRule → Type 0
CoversAll held wanted =
    (p : Point) → HasPlainResource p → list_any (λ rule. allows rule p) wanted ≡ true → list_any (λ rule. allows rule p) held ≡ true
