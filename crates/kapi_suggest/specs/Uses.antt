-- What was used, and what that gives (Kubernetes, 'Role Based Access Control Good Practices', 'Least privilege').
use Rattle.std.specs.Prelude.{◌≡◌, ℕ, ◌==◌, Bool, true, false, not, ◌&&◌, ◌||◌, if◌then◌else◌, List, [], ◌∷◌, ◌++◌, length}
use Rattle.std.specs.List.{list_any}
use Rattle.std.specs.Str.{bytes_eq}
use Rattle.kapi_model.specs.Identities.{is_in, is_master}
use Rattle.kapi_model.specs.declared.identity.Identity.{Identity}
use Rattle.kapi_model.specs.declared.policy_rule.PolicyRule.{PolicyRule}
use Rattle.kapi_rules.specs.Atoms.{atom_allows, resource_atom, url_atom}
use Rattle.kapi_rules.specs.Points.{HasPlainResource}
use Rattle.kapi_rules.specs.declared.atom.Atom.{Atom}
use Rattle.kapi_rules.specs.declared.atom.Names.{Names}
use Rattle.kapi_rules.specs.declared.atom.Names.TheVariants as names
use Rattle.kapi_rules.specs.declared.point.Point.{Point}
use Rattle.kapi_rules.specs.declared.point.Point.TheVariants as point
use Rattle.kapi_policy.specs.Decided.{held}
use Rattle.kapi_policy.specs.Objects.{PolicyObjects}
use Rattle.kapi_aggregation.specs.Members.{Has}
use Rattle.kapi_escalation_laws.specs.Access.{may}
use Rattle.kapi_reviews.specs.declared.question.Question.{Question}

-- `RESOURCE`, or `RESOURCE/SUBRESOURCE`
abbrev pub entry_of : List ℕ → List ℕ → List ℕ
entry_of resource subresource = if length subresource == 0 then resource else resource ++ 47 ∷ subresource

-- that name; all names if the request has none
abbrev pub names_used : List ℕ → Names
names_used name = if length name == 0 then names.All else names.One name

-- what a request asks for, as one entry of each list of a rule
abbrev pub atom_used : Point → Atom
atom_used (point.Resource p) = resource_atom p.verb p.group (entry_of p.resource p.subresource) (names_used p.name)
atom_used (point.Url p) = url_atom p.verb p.path

-- what is given in a namespace counts there, and what is given without one everywhere
abbrev pub counts : List ℕ → List ℕ → Bool
counts given namespace = length given == 0 || bytes_eq given namespace

-- the use gives its user its atom where it was used; a member of `system:masters` needs nothing
abbrev pub gives : Identity → List ℕ → Point → Question → Bool
gives identity namespace p u =
    not (is_master u.identity)
    && (bytes_eq u.identity.user identity.user && (counts u.namespace namespace && atom_allows (atom_used u.point) p))

-- the request is one that some use gives
abbrev pub given_by : List Question → Identity → List ℕ → Point → Bool
given_by uses identity namespace p = is_master identity || list_any (gives identity namespace p) uses

-- ---- premises

-- no resource that was used has a slash
abbrev pub ArePlain : List Question → Type 0
ArePlain uses = (u : Question) → Has uses u → HasPlainResource u.point

-- the policy allows every use
abbrev pub Allows : PolicyObjects → List Question → Type 0
Allows objects uses = (u : Question) → Has uses u → may objects u.identity u.namespace u.point ≡ true

-- no rule that anybody holds lists the empty name
abbrev pub ListsNoEmptyName : PolicyObjects → Type 0
ListsNoEmptyName objects =
    (identity : Identity) (namespace : List ℕ) (rule : PolicyRule) → Has (held objects identity namespace) rule
    → list_any (λ n. bytes_eq n []) rule.resource_names ≡ false

-- the identity is in every group in which its user used something, unless as a master
abbrev pub HasItsGroups : List Question → Identity → Type 0
HasItsGroups uses identity =
    (u : Question) (group : List ℕ) → Has uses u → is_master u.identity ≡ false → bytes_eq u.identity.user identity.user ≡ true
    → is_in group u.identity ≡ true → is_in group identity ≡ true
