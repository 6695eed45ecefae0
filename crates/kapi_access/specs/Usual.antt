-- The identities that authentication gives (Kubernetes, 'Authenticating', 'Anonymous requests'; 'Managing Service Accounts').
use Rattle.std.specs.Prelude.{◌≡◌, ◌⊎◌, ℕ, List, [], ◌∷◌, ◌++◌, true, false, if◌then◌else◌, codes}
use Rattle.std.specs.List.{list_all}
use Rattle.std.specs.Str.{bytes_eq}
use Rattle.kapi_model.specs.declared.identity.Identity.{Identity}
use Rattle.kapi_model.specs.Identities.{is_in}
use Rattle.kapi_escalation.specs.Impersonation.{own_groups, service_account}
use Rattle.kapi_access.specs.declared.identities.Identities.{Identities}
use Rattle.kapi_access.specs.declared.identities.Identities.TheVariants as identities

-- the user of requests without credentials
abbrev pub anonymous_user : List ℕ
anonymous_user = codes "system:anonymous"

-- the group of that user
abbrev pub unauthenticated : List ℕ
unauthenticated = codes "system:unauthenticated"

-- the group of all users with credentials
abbrev pub authenticated : List ℕ
authenticated = codes "system:authenticated"

-- the groups that a user has by itself; a service account has two besides
abbrev pub usual_groups : List ℕ → List (List ℕ)
usual_groups user =
    if bytes_eq user anonymous_user then unauthenticated ∷ [] else own_groups (service_account user) ++ authenticated ∷ []

-- the user in those groups and the ones that it has by itself
abbrev pub with_default_groups : List ℕ → List (List ℕ) → Identity
with_default_groups user groups = record { user = user; groups = groups ++ usual_groups user }

-- the identity of requests without credentials
abbrev pub anonymous : Identity
anonymous = record { user = anonymous_user; groups = unauthenticated ∷ [] }

-- a user other than the anonymous one, in each group that it has by itself, and not in the anonymous user's group
pub record IsAuthenticated (identity : Identity) : Type 0 where
  pub known : bytes_eq identity.user anonymous_user ≡ false
  pub apart : is_in unauthenticated identity ≡ false
  pub grouped : list_all (λ g. is_in g identity) (usual_groups identity.user) ≡ true

-- authentication gives such identities and no others
abbrev pub IsUsual : Identity → Type 0
IsUsual identity = (identity ≡ anonymous) ⊎ IsAuthenticated identity

-- the identity is one of those that a question is about
abbrev pub IsMeant : Identities → Identity → Type 0
IsMeant identities.Any identity = Unit
IsMeant identities.Usual identity = IsUsual identity
