-- Which identity may impersonate which, and with which groups (Kubernetes, 'Authenticating', 'User impersonation' and
-- 'Anonymous requests'; 'Managing Service Accounts').
use Rattle.std.specs.Prelude.{◌≡◌, ◌⊎◌, ℕ, ◌==◌, Bool, not, ◌&&◌, ◌||◌, if◌then◌else◌, List, [], ◌∷◌, ◌++◌, length, map, codes, Option, Some, None, Result, Ok, Err}
use Rattle.std.specs.List.{after_first, before_first, filter, list_any}
use Rattle.std.specs.Str.{bytes_eq}
use Rattle.kapi_model.specs.Names.{is_dns_label, is_dns_subdomain}
use Rattle.kapi_model.specs.declared.subject.ServiceAccount.{ServiceAccount}
use Rattle.kapi_model.specs.Identities.{is_in}
use Rattle.kapi_model.specs.declared.identity.Identity.{Identity}
use Rattle.kapi_rules.specs.declared.point.Point.{Point}
use Rattle.kapi_rules.specs.declared.point.Point.TheVariants as point
use Rattle.kapi_policy.specs.Decided.{decided}
use Rattle.kapi_policy.specs.Laws.{is_allowed}
use Rattle.kapi_policy.specs.Objects.{PolicyObjects}
use Rattle.kapi_request_info.specs.Selector.{behind}
use Rattle.kapi_request_info.specs.declared.impersonated.Impersonation.{Impersonation}
use Rattle.kapi_escalation.specs.declared.impersonation_refused.ImpersonationRefused.{ImpersonationRefused}
use Rattle.kapi_escalation.specs.declared.impersonation_refused.ImpersonationRefused.TheVariants as refused
use Rattle.kapi_escalation.specs.declared.question.Question.{Question}

-- ---- service accounts

-- the account of a namespace and a name, if they are a DNS label and a DNS subdomain
abbrev pub named_account : List ℕ → List ℕ → Option ServiceAccount
named_account namespace name = if is_dns_label namespace && is_dns_subdomain name then Some (record { namespace = namespace; name = name }) else None

-- the account of a namespace and a name that the first colon parts
unfoldable pub account_in : List ℕ → Option ServiceAccount
account_in text =
    if list_any (λ b. b == 58) text then named_account (before_first (λ b. b == 58) text) (after_first (λ b. b == 58) text) else None

-- the service account of the text behind the prefix, if there is one
abbrev pub account_behind : Option (List ℕ) → Option ServiceAccount
account_behind None = None
account_behind (Some text) = account_in text

-- the service account that a user is: `system:serviceaccount:NAMESPACE:NAME`; any other text is another user
unfoldable pub service_account : List ℕ → Option ServiceAccount
service_account user = account_behind (behind user (codes "system:serviceaccount:"))

-- ---- what is asked

-- to impersonate the user, group or service account of that name
abbrev pub impersonating : List ℕ → List ℕ → Point
impersonating resource name =
    point.Resource (record { verb = codes "impersonate"; group = []; resource = resource; subresource = []; name = name })

-- whether the point is allowed in a namespace, or cluster-wide if the namespace is empty
abbrev pub question_about : List ℕ → List ℕ → List ℕ → Question
question_about namespace resource name = record { namespace = namespace; point = impersonating resource name }

-- a service account is asked for in its namespace, every other user cluster-wide
abbrev pub asked_of : Option ServiceAccount → List ℕ → Question
asked_of (Some account) user = question_about account.namespace (codes "serviceaccounts") account.name
asked_of None user = question_about [] (codes "users") user

-- the question whether a user may be impersonated
unfoldable pub user_question : List ℕ → Question
user_question user = asked_of (service_account user) user

-- the question whether a group may be impersonated
abbrev pub group_question : List ℕ → Question
group_question group = question_about [] (codes "groups") group

-- the questions of an impersonation: the user first, then the groups in their order
abbrev pub questions : Impersonation → List Question
questions wanted = user_question wanted.user ∷ map group_question wanted.groups

-- what is asked is not allowed to the identity
abbrev pub is_denied : PolicyObjects → Identity → Question → Bool
is_denied objects identity q = not (is_allowed (decided objects identity q.namespace q.point))

-- the points of the questions that are denied, in their order
abbrev pub denied : PolicyObjects → Identity → List Question → List Point
denied objects identity qs = map (λ q. q.point) (filter (is_denied objects identity) qs)

-- ---- the effective identity

-- the identity in one group more, if it is not in it
abbrev pub with_group : List ℕ → Identity → Identity
with_group group who = if is_in group who then who else record who { groups = who.groups ++ group ∷ [] }

-- the group of the authentication status: the anonymous user and members of `system:unauthenticated` are
-- unauthenticated; everybody else is authenticated
abbrev pub standing_group : Identity → List ℕ
standing_group who =
    if bytes_eq who.user (codes "system:anonymous") || is_in (codes "system:unauthenticated") who then codes "system:unauthenticated"
    else codes "system:authenticated"

-- the identity with the group of its authentication status
abbrev pub authenticated : Identity → Identity
authenticated who = with_group (standing_group who) who

-- the groups of the service accounts of a namespace
abbrev pub account_groups : List ℕ → List (List ℕ)
account_groups namespace = codes "system:serviceaccounts" ∷ (codes "system:serviceaccounts:" ++ namespace) ∷ []

-- the groups of a service account; other users have none of themselves
abbrev pub own_groups : Option ServiceAccount → List (List ℕ)
own_groups (Some account) = account_groups account.namespace
own_groups None = []

-- the groups that are named, or where none is named those of the user
unfoldable pub groups_of : Impersonation → List (List ℕ)
groups_of wanted = if length wanted.groups == 0 then own_groups (service_account wanted.user) else wanted.groups

-- the identity as which the request is made
abbrev pub effective : Impersonation → Identity
effective wanted = authenticated (record { user = wanted.user; groups = groups_of wanted })

-- ---- the check

-- the points that a refusal reports; running out of memory reports none
abbrev pub denied_in : ImpersonationRefused → Option (List Point)
denied_in (refused.Missing points) = Some points
denied_in refused.Memory = None

-- the effective identity if nothing is denied, else all points that are denied
unfoldable pub impersonated : PolicyObjects → Identity → Impersonation → Result Identity (List Point)
impersonated objects identity wanted =
    if length (denied objects identity (questions wanted)) == 0 then Ok (effective wanted)
    else Err (denied objects identity (questions wanted))

-- the identity makes requests as the other: it is the other, or may impersonate the other
abbrev pub MakesAs : PolicyObjects → Identity → Identity → Type 0
MakesAs objects identity other = (other ≡ identity) ⊎ ((wanted : Impersonation) × (impersonated objects identity wanted ≡ Ok other))
