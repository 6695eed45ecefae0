-- The names of a line that names an identity.
use Rattle.std.specs.Prelude.{ℕ, ◌==◌, ◌-◌, Bool, not, ◌&&◌, ◌||◌, List, length, slice_index}
use Rattle.std.specs.List.{list_all}
use Rattle.std.specs.Str.{is_utf8}
use Rattle.kapi_lines.specs.Identities.{names_in}

-- white space: a space, a tab or a carriage return
abbrev pub is_white : ℕ → Bool
is_white b = b == 32 || (b == 9 || b == 13)

-- a name is not empty, and has no white space at its ends
abbrev pub is_name : List ℕ → Bool
is_name name = not (length name == 0) && (not (is_white (slice_index name 0)) && not (is_white (slice_index name (length name - 1))))

-- all names are names; texts that are no UTF-8 name nobody, and are refused if a connection is opened
unfoldable pub are_names : List ℕ → Bool
are_names names = not (is_utf8 names) || list_all (λ name. is_name name) (names_in names)
