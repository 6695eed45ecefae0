-- Whom a binding gives its role (Kubernetes, 'Using RBAC Authorization', 'Referring to subjects').
use Rattle.std.specs.Prelude.{ℕ, List, [], ◌∷◌, length, Bool, ◌==◌, if◌then◌else◌}
use Rattle.std.specs.List.{flat_map}
use Rattle.std.specs.Option.{unwrap_or}
use Rattle.std.specs.Str.{bytes_eq}
use Rattle.kapi_model.specs.declared.policy_rule.PolicyRule.{PolicyRule}
use Rattle.kapi_model.specs.declared.subject.Subject.{Subject}
use Rattle.kapi_model.specs.declared.subject.Subject.TheVariants.{User, Group, ServiceAccount}
use Rattle.kapi_model.specs.declared.identity.Identity.{Identity}
use Rattle.kapi_model.specs.Identities.{is_in}
use Rattle.kapi_model.specs.Subjects.{account_user, namespace_of}
use Rattle.kapi_policy.specs.All.{all_bindings}
use Rattle.kapi_policy.specs.Decided.{Binding, rules_of}
use Rattle.kapi_policy.specs.Objects.{PolicyObjects}
use Rattle.kapi_access.specs.declared.grantee.Grantee.{Grantee}
use Rattle.kapi_access.specs.declared.grantee.Grantee.TheVariants as grantee
use Rattle.kapi_access.specs.declared.identities.Identities.{Identities}
use Rattle.kapi_access.specs.declared.identities.Identities.TheVariants as identities
use Rattle.kapi_access.specs.Usual.{authenticated, anonymous, unauthenticated, usual_groups}

-- the user of a service account, `system:serviceaccount:NAMESPACE:NAME`; in no namespace there is none
abbrev pub account : List ℕ → List ℕ → List Grantee
account namespace name =
    if length namespace == 0 then [] else grantee.User (account_user namespace name) ∷ []

-- the user or group that a subject of a binding in the namespace names
abbrev pub whom : List ℕ → Subject → List Grantee
whom namespace (User name) = grantee.User name ∷ []
whom namespace (Group name) = grantee.Group name ∷ []
whom namespace (ServiceAccount a) = account (namespace_of a namespace) a.name

-- the users and groups to whom a binding gives its role
abbrev pub grantees : Binding → List Grantee
grantees b = flat_map (whom b.namespace) b.subjects

-- the identity is the user, or in the group
abbrev pub matches : Grantee → Identity → Bool
matches (grantee.User name) identity = bytes_eq identity.user name
matches (grantee.Group name) identity = is_in name identity

-- the rules of the binding's role, none if it does not exist
abbrev pub role_of : PolicyObjects → Binding → List PolicyRule
role_of objects b = unwrap_or (rules_of objects b.role b.namespace) []

-- the user that a subject names, with all letters
abbrev pub user_in : Subject → List ℕ
user_in (User name) = name
user_in (Group name) = []
user_in (ServiceAccount a) = []

-- the users that bindings name, one after the other
abbrev pub users_in : List Binding → List ℕ
users_in bindings = flat_map (λ b. flat_map user_in b.subjects) bindings

-- a user whom no binding names: the name is longer than all of theirs
abbrev pub unbound_user : PolicyObjects → List ℕ
unbound_user objects = 120 ∷ users_in (all_bindings objects)

-- another user in the group, and in the one of all users with credentials; the group of those without has the anonymous user alone
abbrev pub usual_member : List ℕ → List ℕ → Identity
usual_member other group =
    if bytes_eq group unauthenticated then anonymous else record { user = other; groups = group ∷ authenticated ∷ [] }

-- the user, or another user in the group, in no group beyond those that such an identity must be in
abbrev pub alone : Identities → List ℕ → Grantee → Identity
alone identities.Any other (grantee.User name) = record { user = name; groups = [] }
alone identities.Any other (grantee.Group name) = record { user = other; groups = name ∷ [] }
alone identities.Usual other (grantee.User name) = record { user = name; groups = usual_groups name }
alone identities.Usual other (grantee.Group name) = usual_member other name
