-- What a field selector selects (Kubernetes, 'Field Selectors').
use Rattle.std.specs.Prelude.{ℕ, ◌==◌, nat_eq, Bool, not, ◌&&◌, ◌||◌, if◌then◌else◌, List, length, drop, codes, Option, Some, None}
use Rattle.std.specs.List.{list_any, starts_with}
use Rattle.std.specs.Option.{option_or, option_and_then}
use Rattle.kapi_model.specs.Names.{is_path_segment}

-- a name that is a path segment (Kubernetes, 'Object Names and IDs') without `,`, `=`, `!` and `\`, by which selectors
-- part and escape
abbrev pub is_selectable : List ℕ → Bool
is_selectable name = is_path_segment name && not (list_any (λ b. b == 44 || (b == 61 || (b == 33 || b == 92))) name)

-- the name that a selector of one equality specifies
abbrev pub named : List ℕ → Option (List ℕ)
named name = if is_selectable name then Some name else None

-- the text behind a prefix, where the text begins with it
abbrev pub behind : List ℕ → List ℕ → Option (List ℕ)
behind text prefix = if starts_with nat_eq text prefix then Some (drop (length prefix) text) else None

-- the name behind a prefix
abbrev pub named_behind : List ℕ → List ℕ → Option (List ℕ)
named_behind selector prefix = option_and_then named (behind selector prefix)

-- the name that a field selector asks for, as `metadata.name==NAME`, or else as `metadata.name=NAME`
unfoldable pub selected_name : List ℕ → Option (List ℕ)
selected_name selector = option_or (named_behind selector (codes "metadata.name==")) (named_behind selector (codes "metadata.name="))
