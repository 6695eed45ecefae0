-- Who may gain more than a policy gives (Kubernetes, 'Role Based Access Control Good Practices', 'Privilege escalation risks').
use Rattle.std.specs.Prelude.{◌≡◌, ◌==◌, ℕ, List, [], ◌∷◌, Bool, true, false, ◌&&◌, ◌||◌, codes}
use Rattle.std.specs.List.{list_any}
use Rattle.kapi_model.specs.Identities.{is_master}
use Rattle.kapi_model.specs.Kinds.{rbac_group}
use Rattle.kapi_model.specs.declared.identity.Identity.{Identity}
use Rattle.kapi_model.specs.declared.kinds.RoleKind.{RoleKind}
use Rattle.kapi_model.specs.declared.policy_rule.PolicyRule.{PolicyRule}
use Rattle.kapi_model.specs.declared.role_ref.RoleRef.{RoleRef}
use Rattle.kapi_rules.specs.Entries.{word_matches}
use Rattle.kapi_rules.specs.declared.point.Point.{Point}
use Rattle.kapi_rules.specs.declared.point.Point.TheVariants as point
use Rattle.kapi_policy.specs.All.{all_bindings}
use Rattle.kapi_policy.specs.Objects.{PolicyObjects}
use Rattle.kapi_escalation.specs.Exempt.{binding, escalating}
use Rattle.kapi_escalation.specs.Impersonation.{impersonating}
use Rattle.kapi_escalation_laws.specs.Access.{may}
use Rattle.kapi_access.specs.declared.first_ways.Listed.TheVariants as listed
use Rattle.kapi_access.specs.Who.{Way, first_ways, ways}

-- some entry is `*` or the word
abbrev pub has_word : List (List ℕ) → List ℕ → Bool
has_word entries word = list_any (λ e. word_matches e word) entries

-- the group of the uids and extra fields of users ('Authenticating', 'User impersonation')
abbrev pub authentication_group : List ℕ
authentication_group = codes "authentication.k8s.io"

-- the text begins so, and does not end there
abbrev pub goes_on_after : List ℕ → List ℕ → Bool
goes_on_after [] [] = false
goes_on_after [] (b ∷ text) = true
goes_on_after (a ∷ start) [] = false
goes_on_after (a ∷ start) (b ∷ text) = a == b && goes_on_after start text

-- the resource entry matches some extra field: the field is asked for as the subresource `userextras/FIELD`
abbrev pub matches_extra : List ℕ → Bool
matches_extra entry =
    word_matches entry (codes "userextras") || (goes_on_after (codes "userextras/") entry || goes_on_after (codes "*/") entry)

-- the rule's resources are users, groups or service accounts
abbrev pub is_about_users : PolicyRule → Bool
is_about_users rule =
    has_word rule.api_groups []
    && (has_word rule.resources (codes "users") || (has_word rule.resources (codes "groups") || has_word rule.resources (codes "serviceaccounts")))

-- the rule's resources are uids or extra fields
abbrev pub is_about_details : PolicyRule → Bool
is_about_details rule =
    has_word rule.api_groups authentication_group && (has_word rule.resources (codes "uids") || list_any matches_extra rule.resources)

-- the rule lets one act as somebody else
abbrev pub lets_impersonate : PolicyRule → Bool
lets_impersonate rule = has_word rule.verbs (codes "impersonate") && (is_about_users rule || is_about_details rule)

-- the rule has the verb on roles or cluster roles
abbrev pub lets_on_roles : List ℕ → PolicyRule → Bool
lets_on_roles verb rule =
    has_word rule.verbs verb
    && (has_word rule.api_groups rbac_group && (has_word rule.resources (codes "roles") || has_word rule.resources (codes "clusterroles")))

-- the rule lets one act as somebody else, or write or bind roles whose rules one does not hold
unfoldable pub is_risky : PolicyRule → Bool
is_risky rule = lets_impersonate rule || (lets_on_roles (codes "escalate") rule || lets_on_roles (codes "bind") rule)

-- to whom such a rule is given anywhere, once in each scope in which a binding gives it, members of `system:masters` apart
unfoldable pub risks : PolicyObjects → List Way
risks objects = first_ways listed.InEachScope (ways objects is_risky (all_bindings objects))

-- some entry is `*` or one of the words
abbrev pub has_one_of : List (List ℕ) → List ℕ → List ℕ → List ℕ → Bool
has_one_of entries a b c = has_word entries a || (has_word entries b || has_word entries c)

-- the rule has a verb that escalates on anything, or reads Secrets; `*` is each verb, and each resource
abbrev pub is_grave : PolicyRule → Bool
is_grave rule =
    has_one_of rule.verbs (codes "escalate") (codes "bind") (codes "impersonate")
    || (has_word rule.api_groups [] && (has_word rule.resources (codes "secrets") && has_one_of rule.verbs (codes "get") (codes "list") (codes "watch")))

-- ---- what is risky

-- to impersonate a uid, or with an extra field's value
abbrev pub impersonating_detail : List ℕ → List ℕ → List ℕ → Point
impersonating_detail resource field value =
    point.Resource (record { verb = codes "impersonate"; group = authentication_group; resource = resource; subresource = field; name = value })

-- what impersonation asks for: a user, group or service account, a uid, or a value of an extra field
pub data IsImpersonation : Point → Type 0 where
  of_user : (name : List ℕ) → IsImpersonation (impersonating (codes "users") name)
  of_group : (name : List ℕ) → IsImpersonation (impersonating (codes "groups") name)
  of_account : (name : List ℕ) → IsImpersonation (impersonating (codes "serviceaccounts") name)
  of_uid : (name : List ℕ) → IsImpersonation (impersonating_detail (codes "uids") [] name)
  of_extra : (field value : List ℕ) → IsImpersonation (impersonating_detail (codes "userextras") field value)

-- the identity is no master, and may not in the namespace, or cluster-wide if that is empty, write or bind a role whose rules it
-- does not hold, nor impersonate anybody
pub record IsWithoutRisk (objects : PolicyObjects) (identity : Identity) (namespace : List ℕ) : Type 0 where
  pub no_master : is_master identity ≡ false
  pub no_escalate : (kind : RoleKind) (name : List ℕ) → may objects identity namespace (escalating kind name) ≡ false
  pub no_bind : (role : RoleRef) → may objects identity namespace (binding role) ≡ false
  pub no_impersonate : (p : Point) → IsImpersonation p → may objects identity namespace p ≡ false
