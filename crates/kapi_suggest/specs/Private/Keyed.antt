-- The atoms that were used, under keys: whatever implies an atom lies under one of three.
use Rattle.std.specs.Prelude.{◌≡◌, ℕ, nat_eq, Bool, ◌&&◌, ◌||◌, if◌then◌else◌, List, [], ◌∷◌, ◌++◌}
use Rattle.std.specs.BTreeMap.{insert_entry, is_at}
use Rattle.std.specs.Cmp.Lexicographic.{slice_cmp}
use Rattle.std.specs.List.{ends_with, list_any, starts_with}
use Rattle.std.specs.List.Sorted.{IsStrictlySortedBy}
use Rattle.std.specs.Map.{keys_of, lookup, remove_entry}
use Rattle.std.specs.Option.{unwrap_or}
use Rattle.std.specs.Ordering.{nat_cmp}
use Rattle.std.specs.Str.{bytes_eq}
use Rattle.kapi_rules.specs.Entries.{star}
use Rattle.kapi_rules.specs.declared.atom.Atom.{Atom}
use Rattle.kapi_rules.specs.declared.atom.Atom.TheVariants as atom
use Rattle.kapi_rules.specs.declared.atom.Names.{Names}
use Rattle.kapi_rules.specs.declared.atom.Names.TheVariants as names

-- the resource or the URL
abbrev pub target : Atom → List ℕ
target (atom.Resource a) = a.resource
target (atom.Url a) = a.url

-- the name; empty for all names
abbrev pub name_among : Names → List ℕ
name_among names.All = []
name_among (names.One name) = name

abbrev pub name : Atom → List ℕ
name (atom.Resource a) = name_among a.names
name (atom.Url a) = []

-- it may cover others: it begins or ends with a star
abbrev pub is_wide : List ℕ → Bool
is_wide text = starts_with nat_eq text star || ends_with nat_eq text star

-- the key of the atoms with the same target and name
abbrev pub named : Atom → List ℕ
named a = target a ++ 32 ∷ name a

-- the key of the atoms with the same target and all names
abbrev pub unnamed : Atom → List ℕ
unnamed a = target a ++ 32 ∷ []

-- the key under which an atom lies
abbrev pub key_of : Atom → List ℕ
key_of a = if is_wide (target a) then star else named a

-- the atoms under a key
abbrev pub under : List (List ℕ × List Atom) → List ℕ → List Atom
under sets k = unwrap_or (lookup (is_at (slice_cmp nat_cmp k)) sets) []

-- the sets, with one atom more under a key
abbrev pub with_under : List (List ℕ × List Atom) → List ℕ → Atom → List (List ℕ × List Atom)
with_under sets k a =
    insert_entry (slice_cmp nat_cmp) (remove_entry (is_at (slice_cmp nat_cmp k)) sets) k (under sets k ++ a ∷ [])

-- each of the atoms lies under its key, and nothing else does
pub record IsIndex (atoms : List Atom) (sets : List (List ℕ × List Atom)) : Type 0 where
  pub sorted : IsStrictlySortedBy (slice_cmp nat_cmp) (keys_of sets)
  pub each : (k : List ℕ) (test : Atom → Bool) → list_any test (under sets k) ≡ list_any (λ b. bytes_eq k (key_of b) && test b) atoms
