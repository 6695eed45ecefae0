-- The atoms of a rule, and when one implies another. Kubernetes breaks rules down alike if it checks for escalation
-- ('Using RBAC Authorization', Restrictions on role creation or update).
use Rattle.std.specs.Prelude.{ℕ, ◌==◌, Bool, true, false, ◌&&◌, ◌||◌, if◌then◌else◌, List, [], ◌∷◌, ◌++◌, length, map, Option, Some, None}
use Rattle.std.specs.List.{flat_map, list_any}
use Rattle.std.specs.Str.{bytes_eq}
use Rattle.kapi_model.specs.declared.policy_rule.PolicyRule.{PolicyRule}
use Rattle.kapi_rules.specs.Entries.{word_matches, resource_matches, url_matches}
use Rattle.kapi_rules.specs.declared.atom.Atom.{Atom}
use Rattle.kapi_rules.specs.declared.atom.Atom.TheVariants as atom
use Rattle.kapi_rules.specs.declared.atom.Names.{Names}
use Rattle.kapi_rules.specs.declared.atom.Names.TheVariants as names
use Rattle.kapi_rules.specs.declared.point.Point.{Point}
use Rattle.kapi_rules.specs.declared.point.Point.TheVariants as point

-- one verb on one resource of one group
abbrev pub resource_atom : List ℕ → List ℕ → List ℕ → Names → Atom
resource_atom verb group resource names =
    atom.Resource (record { verb = verb; group = group; resource = resource; names = names })

-- one verb on one URL
abbrev pub url_atom : List ℕ → List ℕ → Atom
url_atom verb url = atom.Url (record { verb = verb; url = url })

-- all names once if the list is empty, and else each name of the list
abbrev pub names_of : List (List ℕ) → List Names
names_of listed = if length listed == 0 then names.All ∷ [] else map names.One listed

-- the atoms of one verb on one resource of one group
abbrev pub verb_atoms : PolicyRule → List ℕ → List ℕ → List ℕ → List Atom
verb_atoms rule group resource verb = map (resource_atom verb group resource) (names_of rule.resource_names)

-- the atoms of one resource of one group
abbrev pub resource_atoms : PolicyRule → List ℕ → List ℕ → List Atom
resource_atoms rule group resource = flat_map (verb_atoms rule group resource) rule.verbs

-- the atoms of one group
abbrev pub group_atoms : PolicyRule → List ℕ → List Atom
group_atoms rule group = flat_map (resource_atoms rule group) rule.resources

-- the atoms of one URL
abbrev pub url_atoms : PolicyRule → List ℕ → List Atom
url_atoms rule url = map (λ verb. url_atom verb url) rule.verbs

-- the atoms of a rule: for each group, each resource, each verb and each name; then for each URL and each verb
unfoldable pub atoms : PolicyRule → List Atom
atoms rule = flat_map (group_atoms rule) rule.api_groups ++ flat_map (url_atoms rule) rule.non_resource_urls

-- the text behind the first slash, if there is one
abbrev pub after_slash : List ℕ → Option (List ℕ)
after_slash [] = None
after_slash (b ∷ text) = if b == 47 then Some text else after_slash text

-- the entry is `*/` and then the text
abbrev pub is_any_with : List ℕ → Option (List ℕ) → Bool
is_any_with entry None = false
is_any_with entry (Some subresource) = bytes_eq entry (42 ∷ 47 ∷ subresource)

-- a resource entry covers itself, `*` covers all, and `*/SUBRESOURCE` all with that text behind their first slash
abbrev pub resource_covers : List ℕ → List ℕ → Bool
resource_covers entry covered = word_matches entry covered || is_any_with entry (after_slash covered)

-- all names cover every name and themselves, and a name covers itself alone
abbrev pub names_cover : Names → Names → Bool
names_cover names.All covered = true
names_cover (names.One name) names.All = false
names_cover (names.One name) (names.One covered) = bytes_eq name covered

-- the name is in the list, and all names are not
abbrev pub is_one_of : List (List ℕ) → Names → Bool
is_one_of listed names.All = false
is_one_of listed (names.One name) = list_any (λ n. bytes_eq n name) listed

-- listed names cover: an empty list all names and each
abbrev pub listed_cover : List (List ℕ) → Names → Bool
listed_cover listed covered = length listed == 0 || is_one_of listed covered

-- an atom implies another of its sort if each part covers the other's
abbrev pub implies : Atom → Atom → Bool
implies (atom.Resource a) (atom.Resource b) =
    word_matches a.verb b.verb
    && (word_matches a.group b.group && (resource_covers a.resource b.resource && names_cover a.names b.names))
implies (atom.Resource a) (atom.Url b) = false
implies (atom.Url a) (atom.Resource b) = false
implies (atom.Url a) (atom.Url b) = word_matches a.verb b.verb && url_matches a.url b.url

-- all names allow every name, and a name itself alone
abbrev pub names_allow : Names → List ℕ → Bool
names_allow names.All name = true
names_allow (names.One listed) name = bytes_eq listed name

-- an atom allows a point as a rule does that lists its parts alone
abbrev pub atom_allows : Atom → Point → Bool
atom_allows (atom.Resource a) (point.Resource p) =
    word_matches a.verb p.verb
    && (word_matches a.group p.group && (resource_matches a.resource p.resource p.subresource && names_allow a.names p.name))
atom_allows (atom.Resource a) (point.Url p) = false
atom_allows (atom.Url a) (point.Resource p) = false
atom_allows (atom.Url a) (point.Url p) = word_matches a.verb p.verb && url_matches a.url p.path

-- each part of an atom is covered by some entry of the rule
abbrev pub lists_cover : PolicyRule → Atom → Bool
lists_cover rule (atom.Resource b) =
    list_any (λ e. word_matches e b.verb) rule.verbs
    && (list_any (λ e. word_matches e b.group) rule.api_groups
    && (list_any (λ e. resource_covers e b.resource) rule.resources && listed_cover rule.resource_names b.names))
lists_cover rule (atom.Url b) =
    list_any (λ e. word_matches e b.verb) rule.verbs && list_any (λ e. url_matches e b.url) rule.non_resource_urls

-- the list of names of an atom: none if it has all names
abbrev pub only_names : Names → List (List ℕ)
only_names names.All = []
only_names (names.One name) = name ∷ []

-- the rule that has the atom alone
abbrev pub rule_of : Atom → PolicyRule
rule_of (atom.Resource a) = record {
  verbs = a.verb ∷ [];
  api_groups = a.group ∷ [];
  resources = a.resource ∷ [];
  resource_names = only_names a.names;
  non_resource_urls = [];
}
rule_of (atom.Url a) = record {
  verbs = a.verb ∷ [];
  api_groups = [];
  resources = [];
  resource_names = [];
  non_resource_urls = a.url ∷ [];
}
