-- How the entries of a rule match (Kubernetes, 'Using RBAC Authorization': Role example, Referring to resources,
-- Referring to non-resource URLs).
use Rattle.std.specs.Prelude.{ℕ, ◌==◌, nat_eq, Bool, ◌&&◌, ◌||◌, if◌then◌else◌, List, [], ◌∷◌, ◌++◌, length}
use Rattle.std.specs.List.{list_all, list_any, starts_with, ends_with}
use Rattle.std.specs.Str.{bytes_eq}

-- the entry `*`, which matches all
abbrev pub star : List ℕ
star = 42 ∷ []

-- an entry that lists verbs or groups: `*`, or the very word
abbrev pub word_matches : List ℕ → List ℕ → Bool
word_matches entry word = bytes_eq entry star || bytes_eq entry word

-- a resource entry on a subresource: `*`, `RESOURCE/SUBRESOURCE` or `*/SUBRESOURCE`
abbrev pub subresource_matches : List ℕ → List ℕ → List ℕ → Bool
subresource_matches entry resource subresource =
    word_matches entry (resource ++ 47 ∷ subresource) || bytes_eq entry (42 ∷ 47 ∷ subresource)

-- an entry that lists resources: if there is no subresource, `*` or the very resource
abbrev pub resource_matches : List ℕ → List ℕ → List ℕ → Bool
resource_matches entry resource subresource =
    if length subresource == 0 then word_matches entry resource else subresource_matches entry resource subresource

-- the listed names: an empty list has every name
abbrev pub names_match : List (List ℕ) → List ℕ → Bool
names_match names name = length names == 0 || list_any (λ n. bytes_eq n name) names

-- the text without the stars at its end
abbrev pub without_stars : List ℕ → List ℕ
without_stars [] = []
without_stars (b ∷ text) = if list_all (λ c. c == 42) (b ∷ text) then [] else b ∷ without_stars text

-- a URL entry with a star at its end: the path begins with the text before the last stars
abbrev pub beginning_matches : List ℕ → List ℕ → Bool
beginning_matches entry path = ends_with nat_eq entry star && starts_with nat_eq path (without_stars entry)

-- an entry that lists URLs: the very path, or a beginning of it and a star
abbrev pub url_matches : List ℕ → List ℕ → Bool
url_matches entry path = bytes_eq entry path || beginning_matches entry path
