-- Histories: all the changes ever of a store, one after the other, each made of what the ones before it left.
use Rattle.std.specs.Prelude.{◌≡◌, ℕ, List, [], ◌∷◌, ◌++◌, Ok, IfSome, codes}
use Rattle.std.specs.List.{IsDistinct}
use Rattle.std.specs.Map.{lookup}
use Rattle.serde_json.specs.Data.{Data}
use Rattle.kapi_store.specs.Changes.{placed, Follow}
use Rattle.kapi_store.specs.Keys.{is_key}
use Rattle.kapi_store.specs.Plain.{Plain, PlainChange, RefinesPlain, creation, replacement_in_place, removal}
use Rattle.kapi_store.specs.UidAndVersion.{metadata_text}
use Rattle.kapi_store.specs.State.{State}
use Rattle.kapi_store.specs.declared.key.Key.{Key}

-- a tree has the namespace and the name of the key in its metadata
abbrev pub IsNamedBy : Key → Data → Type 0
IsNamedBy k tree = (metadata_text (codes "namespace") tree ≡ k.namespace) × (metadata_text (codes "name") tree ≡ k.name)

-- changes that were made of these objects, one after the other: each has the old object of its key, and a tree
-- that it leaves at the key has the key's namespace and name
unfoldable pub AreMadeOf : List (Key × Data) → List PlainChange → Type 0
AreMadeOf os [] = Unit {0}
AreMadeOf os (c ∷ cs) = (c.old ≡ lookup (is_key c.key) os) × IfSome c.new (IsNamedBy c.key) × AreMadeOf (placed c.key c.new os) cs

-- all the changes ever of a store: they were made of no objects, and are numbered from the first revision on
pub record IsHistory (first : ℕ) (history : List PlainChange) : Type 0 where
  pub made : AreMadeOf [] history
  pub numbered : Follow (λ c. c.revision) first history

-- no change at all is a history
abbrev pub NoChangeIsAHistory : Type 0
NoChangeIsAHistory = (first : ℕ) → IsHistory first []

-- changes that a store writes go on with its history
abbrev pub GoesOn : (Plain → List PlainChange → Type 0) → Type 0
GoesOn IsWritten = (store : State) (h cs : List PlainChange) (s : Plain) → RefinesPlain store h s → IsHistory s.first h → IsWritten s cs → IsHistory s.first (h ++ cs)

-- the changes of a creation of a tree that has the namespace and the name of its key
abbrev pub IsCreation : Plain → List PlainChange → Type 0
IsCreation s cs = (k : Key) × (tree : Data) × IsNamedBy k tree × (creation s k tree ≡ Ok cs)

-- the changes of a replacement by a tree that has the namespace and the name of its key
abbrev pub IsReplacement : Plain → List PlainChange → Type 0
IsReplacement s cs = (k : Key) × (tree : Data) × IsNamedBy k tree × (replacement_in_place s k tree ≡ Ok cs)

-- the changes of a removal of objects at different keys
abbrev pub IsRemoval : Plain → List PlainChange → Type 0
IsRemoval s cs = (ks : List Key) × IsDistinct is_key ks × (removal s ks ≡ Ok cs)
