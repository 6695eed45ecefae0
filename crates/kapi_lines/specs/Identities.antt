-- An identity as a line of text has it.
use Rattle.std.specs.Prelude.{ℕ, ◌==◌, not, ◌&&◌, if◌then◌else◌, List, [], ◌∷◌, length, Option, Some, None}
use Rattle.std.specs.List.{list_all, slice_split}
use Rattle.std.specs.Str.{is_utf8}
use Rattle.kapi_model.specs.declared.identity.Identity.{Identity}

-- the names of `USER` or `USER,GROUP,..`
abbrev pub names_in : List ℕ → List (List ℕ)
names_in s = slice_split (λ b. b == 44) s

-- the identity of a user and the user's groups
abbrev pub identity_of : List (List ℕ) → Identity
identity_of [] = record { user = []; groups = [] }
identity_of (user ∷ groups) = record { user = user; groups = groups }

-- the identity that names in UTF-8 specify, none of them empty
unfoldable pub named_identity : List ℕ → Option Identity
named_identity s =
    if is_utf8 s && list_all (λ name. not (length name == 0)) (names_in s) then Some (identity_of (names_in s)) else None
