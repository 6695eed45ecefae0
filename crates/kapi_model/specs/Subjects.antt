-- Which identities the subjects of a binding match (Kubernetes, 'Using RBAC Authorization', 'Referring to subjects').
use Rattle.std.specs.Prelude.{ℕ, List, ◌∷◌, ◌++◌, length, Bool, not, ◌&&◌, ◌==◌, if◌then◌else◌, codes}
use Rattle.std.specs.Str.{bytes_eq}
use Rattle.kapi_model.specs.declared.identity.Identity.{Identity}
use Rattle.kapi_model.specs.declared.subject.ServiceAccount.{ServiceAccount as Account}
use Rattle.kapi_model.specs.declared.subject.Subject.{Subject}
use Rattle.kapi_model.specs.declared.subject.Subject.TheVariants.{User, Group, ServiceAccount}
use Rattle.kapi_model.specs.Identities.{is_in}

-- the byte `:`
abbrev pub colon : ℕ
colon = 58

-- the user that a service account is: `system:serviceaccount:NAMESPACE:NAME`
abbrev pub account_user : List ℕ → List ℕ → List ℕ
account_user namespace name = codes "system:serviceaccount:" ++ (namespace ++ colon ∷ name)

-- the user is that service account; in no namespace there is none
abbrev pub is_account : List ℕ → List ℕ → List ℕ → Bool
is_account user namespace name = not (length namespace == 0) && bytes_eq user (account_user namespace name)

-- a service account that has no namespace is one of the binding's
abbrev pub namespace_of : Account → List ℕ → List ℕ
namespace_of account binding = if length account.namespace == 0 then binding else account.namespace

-- whether a subject of a binding in a namespace matches the identity
abbrev pub subject_matches : Subject → List ℕ → Identity → Bool
subject_matches (User name) namespace identity = bytes_eq identity.user name
subject_matches (Group name) namespace identity = is_in name identity
subject_matches (ServiceAccount account) namespace identity = is_account identity.user (namespace_of account namespace) account.name
