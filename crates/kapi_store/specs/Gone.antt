-- The object before a change, as a watch shows it that sees it go (Kubernetes, 'Efficient detection of changes').
use Rattle.std.specs.Prelude.{ℕ, List, codes, decimal, if◌then◌else◌}
use Rattle.std.specs.Str.{bytes_eq}
use Rattle.serde_json.specs.Data.{Data, string, object, Members, no_members, member}

-- members whose value at this key is another
abbrev pub changed_at : List ℕ → (Data → Data) → Members → Members
changed_at key change no_members = no_members
changed_at key change (member k d ms) = member k (if bytes_eq k key then change d else d) (changed_at key change ms)

-- an object with its value at this key changed; anything else is unchanged
abbrev pub with_changed : List ℕ → (Data → Data) → Data → Data
with_changed key change (object ms) = object (changed_at key change ms)
with_changed key change d = d

-- the tree with the revision as the version in its metadata
abbrev pub at_version : ℕ → Data → Data
at_version revision tree =
    with_changed (codes "metadata") (with_changed (codes "resourceVersion") (λ d. string (decimal revision))) tree
