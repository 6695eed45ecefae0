-- What contracts see of a store.
use Rattle.std.specs.Prelude.{◌≡◌, ℕ, ◌+◌, ◌-◌, ◌≤◌, min, List, [], ◌∷◌, Option, None, Some, IsSome, length}
use Rattle.std.specs.List.Sorted.{IsStrictlySortedBy}
use Rattle.std.specs.Map.{lookup, keys_of}
use Rattle.kapi_store.specs.declared.stored.StoredObject.{StoredObject}
use Rattle.kapi_model.specs.declared.row.ResourceRow.{ResourceRow}
use Rattle.kapi_store.specs.declared.key.Key.{Key}
use Rattle.kapi_store.specs.declared.change.Change.{Change}
use Rattle.kapi_store.specs.Limits.{last_revision, window_limit}
use Rattle.kapi_store.specs.Keys.{key_cmp, is_key}
use Rattle.kapi_store.specs.Changes.{revision_of, Follow}

-- the table, the slots (a key with an object, or one reserved for a new object), the key of the slot that may be empty,
-- the first and the current revision, and the last changes, the oldest first
pub record State : Type 0 where
  pub table : List ResourceRow
  pub slots : List (Key × Option StoredObject)
  pub reserved : Option Key
  pub first : ℕ
  pub revision : ℕ
  pub window : List Change

module _ {K X : Type 0} where
  -- an entry in front, if its slot is not empty
  abbrev pub held : K → Option X → List (K × X) → List (K × X)
  held k None os = os
  held k (Some x) os = (k, x) ∷ os

  -- the entries of the slots that are not empty
  unfoldable pub live : List (K × Option X) → List (K × X)
  live [] = []
  live (e ∷ es) = held e.0 e.1 (live es)

  -- no slot is empty but that of the reserved key
  unfoldable pub IsReserved : Option K → List (K × Option X) → Type 0
  IsReserved reserved [] = Unit {0}
  IsReserved reserved (e ∷ es) = (e.1 ≡ None → reserved ≡ Some e.0) × IsReserved reserved es

-- the objects, in the order of their keys
abbrev pub objects : State → List (Key × StoredObject)
objects s = live s.slots

-- nothing that a caller sees was changed; the empty slot may be another
pub record Same (s t : State) : Type 0 where
  pub objects : objects t ≡ objects s
  pub revision : t.revision ≡ s.revision
  pub window : t.window ≡ s.window
  pub table : t.table ≡ s.table
  pub first : t.first ≡ s.first

-- the first change's key has a slot, if the change leaves an object
unfoldable pub HasSlot : List (Key × Option StoredObject) → List Change → Type 0
HasSlot slots [] = Unit {0}
HasSlot slots (c ∷ cs) = IsSome c.new → IsSome (lookup (is_key c.key) slots)

-- the store is as it was when the changes were prepared
pub record Fits (s : State) (cs : List Change) : Type 0 where
  pub next : Follow revision_of s.revision cs
  pub last : s.revision + length cs ≤ last_revision
  pub slot : HasSlot s.slots cs

-- what holds of every store: its keys are in order, each once, at most one slot is empty, and the changes that are kept
-- are the last ones, numbered without a gap up to the current revision
pub record IsStore (s : State) : Type 0 where
  pub slots : IsStrictlySortedBy key_cmp (keys_of s.slots)
  pub ordered : IsStrictlySortedBy key_cmp (keys_of (objects s))
  pub reserved : IsReserved s.reserved s.slots
  pub bounded : length s.slots ≤ length (objects s) + 1
  pub numbered : Follow revision_of (s.revision - length s.window) s.window
  pub counted : length s.window ≡ min window_limit (s.revision - s.first)
  pub begun : s.first ≤ s.revision
  pub limited : s.revision ≤ last_revision
