-- Header fields by name.
use Rattle.std.specs.Prelude.{ℕ, Bool, List, map}
use Rattle.std.specs.List.{filter}
use Rattle.std.specs.Str.{str_eq_ignore_ascii_case}
use Rattle.kapi_http.specs.declared.message.Header.{Header}

-- the field has that name, in any case (RFC 9110 section 5.1)
abbrev pub is_named : List ℕ → Header → Bool
is_named name h = str_eq_ignore_ascii_case h.name name

-- the values of the fields of that name, in their order
abbrev pub values_named : List ℕ → List Header → List (List ℕ)
values_named name headers = map (λ h. h.value) (filter (is_named name) headers)
