-- The identity that a request asks to act as (Kubernetes, 'Authenticating', 'User impersonation').
use Rattle.std.specs.Prelude.{ℕ, ◌==◌, nat_le, Bool, not, ◌&&◌, ◌||◌, if◌then◌else◌, List, [], ◌∷◌, length, take, codes, Option, Some, None, Result, Ok, Err}
use Rattle.std.specs.List.{list_all, list_any}
use Rattle.std.specs.Str.{is_utf8, str_eq_ignore_ascii_case}
use Rattle.kapi_http.specs.declared.message.Header.{Header}
use Rattle.kapi_text.specs.ResultIs.{◌>>=◌}
use Rattle.kapi_request_info.specs.Fields.{is_named, values_named}
use Rattle.kapi_request_info.specs.declared.impersonated.Impersonation.{Impersonation}
use Rattle.kapi_request_info.specs.declared.impersonated.ImpersonationError.{ImpersonationError}
use Rattle.kapi_request_info.specs.declared.impersonated.ImpersonationError.TheVariants as error

-- header fields that name no identity to be impersonated
pub data Misuse : Type 0 where
  bad_headers : Misuse

-- the misuse that an error reports; none if it is out of memory
abbrev pub misuse_of : ImpersonationError → Option Misuse
misuse_of error.BadHeaders = Some bad_headers
misuse_of error.Memory = None

-- the field is of the family of impersonation: its name begins with `Impersonate-`, in any case
abbrev pub is_impersonation : Header → Bool
is_impersonation h = nat_le 12 (length h.name) && str_eq_ignore_ascii_case (take 12 h.name) (codes "impersonate-")

-- the field names a user or a group
abbrev pub names_someone : Header → Bool
names_someone h = is_named (codes "impersonate-user") h || is_named (codes "impersonate-group") h

-- another field of the impersonation family, as one of an extra value, is not served
abbrev pub is_other : Header → Bool
is_other h = is_impersonation h && not (names_someone h)

-- the name of a user or a group
abbrev pub is_name : List ℕ → Bool
is_name value = not (length value == 0) && is_utf8 value

-- a value, if it is a name
abbrev pub name_in : List ℕ → Result (List ℕ) Misuse
name_in value = if is_name value then Ok value else Err bad_headers

-- the values of the fields of that name, each of which is a name
unfoldable pub names_in : List ℕ → List Header → Result (List (List ℕ)) Misuse
names_in name headers = if list_all is_name (values_named name headers) then Ok (values_named name headers) else Err bad_headers

-- without a user there are no groups, and nobody is impersonated
abbrev pub nobody : List (List ℕ) → Result (Option Impersonation) Misuse
nobody groups = if length groups == 0 then Ok None else Err bad_headers

-- the impersonation that users and groups specify: one user and the groups, or none
unfoldable pub meant : List (List ℕ) → List (List ℕ) → Result (Option Impersonation) Misuse
meant [] groups = nobody groups
meant (user ∷ []) groups = Ok (Some (record { user = user; groups = groups }))
meant (user ∷ other ∷ more) groups = Err bad_headers

-- the users and groups that the fields name
unfoldable pub named : List Header → Result (Option Impersonation) Misuse
named headers = do
  users ← names_in (codes "impersonate-user") headers
  groups ← names_in (codes "impersonate-group") headers
  meant users groups

-- the impersonation that a request with these header fields asks for, if any
unfoldable pub impersonation : List Header → Result (Option Impersonation) Misuse
impersonation headers = if list_any is_other headers then Err bad_headers else named headers
