-- Names of bindings under keys: users or groups.
use Rattle.std.specs.Prelude.{◌≡◌, ℕ, Bool, not, ◌&&◌, ◌||◌, List, []}
use Rattle.std.specs.BTreeMap.{is_at}
use Rattle.std.specs.List.{list_any}
use Rattle.std.specs.List.Sorted.{IsStrictlySortedBy}
use Rattle.std.specs.Map.{lookup}
use Rattle.std.specs.Option.{unwrap_or}
use Rattle.std.specs.Str.{bytes_eq}
use Rattle.kapi_policy.specs.Objects.{name_cmp}

-- the name is one of the names
abbrev pub is_listed : List ℕ → List (List ℕ) → Bool
is_listed name names = list_any (is_at (name_cmp name)) names

-- the names under a key
abbrev pub names_at : List (List ℕ × List (List ℕ)) → List ℕ → List (List ℕ)
names_at sets key = unwrap_or (lookup (is_at (name_cmp key)) sets) []

-- the name is one under the key
abbrev pub has_name : List (List ℕ × List (List ℕ)) → List ℕ → List ℕ → Bool
has_name sets key name = is_listed name (names_at sets key)

-- the names under each key are in order, each once
abbrev pub AreOrdered : List (List ℕ × List (List ℕ)) → Type 0
AreOrdered sets = (key : List ℕ) → IsStrictlySortedBy name_cmp (names_at sets key)

-- the key is one of the keys
abbrev pub is_key : List ℕ → List (List ℕ) → Bool
is_key key keys = list_any (λ x. bytes_eq x key) keys

-- the keys are the others, whatever their order
abbrev pub AreKeys : List (List ℕ) → List (List ℕ) → Type 0
AreKeys keys others = (key : List ℕ) → is_key key keys ≡ is_key key others

-- each key has the names that it had
abbrev pub AreSame : List (List ℕ × List (List ℕ)) → List (List ℕ × List (List ℕ)) → Type 0
AreSame old new = (k n : List ℕ) → has_name new k n ≡ has_name old k n

-- each of the keys has the name besides
abbrev pub Adds : List (List ℕ) → List ℕ → List (List ℕ × List (List ℕ)) → List (List ℕ × List (List ℕ)) → Type 0
Adds keys name old new = (k n : List ℕ) → has_name new k n ≡ ((is_key k keys && bytes_eq name n) || has_name old k n)

-- none of the keys has the name, but for those that are kept
abbrev pub Removes : List (List ℕ) → List (List ℕ) → List ℕ → List (List ℕ × List (List ℕ)) → List (List ℕ × List (List ℕ)) → Type 0
Removes keys kept name old new =
    (k n : List ℕ) → has_name new k n ≡ (has_name old k n && not ((is_key k keys && not (is_key k kept)) && bytes_eq name n))

-- these keys, and no others, have the name
abbrev pub HasAt : List (List ℕ) → List ℕ → List (List ℕ × List (List ℕ)) → Type 0
HasAt keys name sets = (k : List ℕ) → has_name sets k name ≡ is_key k keys
