-- The users and groups that the subjects of a binding match (Kubernetes, 'Using RBAC Authorization', 'Referring to
-- subjects').
use Rattle.std.specs.Prelude.{ℕ, ◌==◌, List, [], ◌∷◌, length, if◌then◌else◌}
use Rattle.std.specs.List.{flat_map}
use Rattle.kapi_model.specs.Subjects.{account_user, namespace_of}
use Rattle.kapi_model.specs.declared.subject.Subject.{Subject}
use Rattle.kapi_model.specs.declared.subject.Subject.TheVariants.{User, Group, ServiceAccount}

-- the user that a service account is; in no namespace there is none
abbrev pub account_users : List ℕ → List ℕ → List (List ℕ)
account_users namespace name = if length namespace == 0 then [] else account_user namespace name ∷ []

-- the user that a subject of a binding in a namespace is, if it is one
abbrev pub user_of : List ℕ → Subject → List (List ℕ)
user_of namespace (User name) = name ∷ []
user_of namespace (Group name) = []
user_of namespace (ServiceAccount account) = account_users (namespace_of account namespace) account.name

-- the group that a subject is, if it is one
abbrev pub group_of : Subject → List (List ℕ)
group_of (User name) = []
group_of (Group name) = name ∷ []
group_of (ServiceAccount account) = []

-- the users that the subjects of a binding in a namespace are, in order
abbrev pub users_of : List ℕ → List Subject → List (List ℕ)
users_of namespace subjects = flat_map (user_of namespace) subjects

-- the groups that the subjects of a binding are, in order
abbrev pub groups_of : List Subject → List (List ℕ)
groups_of subjects = flat_map group_of subjects
