-- What changes make of a map of objects, and how a list of changes is numbered.
use Rattle.std.specs.Prelude.{◌≡◌, ℕ, ◌+◌, ◌-◌, List, [], ◌∷◌, Option, None, Some, map, length, drop, option_map}
use Rattle.serde_json.specs.Data.{Data}
use Rattle.kapi_object.specs.Object.{tree_of}
use Rattle.kapi_object.specs.declared.object.Object.{Object}
use Rattle.kapi_store.specs.Stored.{stored_tree}
use Rattle.std.specs.Map.{remove_entry}
use Rattle.std.specs.BTreeMap.{insert_entry}
use Rattle.kapi_store.specs.declared.stored.StoredObject.{StoredObject}
use Rattle.kapi_store.specs.declared.key.Key.{Key}
use Rattle.kapi_store.specs.declared.change.Change.{Change}
use Rattle.kapi_store.specs.Keys.{key_cmp, is_key}

module _ {X : Type 0} where
  -- a map in which a key has this value, or none
  unfoldable pub placed : Key → Option X → List (Key × X) → List (Key × X)
  placed k (Some x) os = insert_entry key_cmp os k x
  placed k None os = remove_entry (is_key k) os

  -- a map in which several keys have these values, or none, put one after the other
  unfoldable pub placed_all : List (Key × Option X) → List (Key × X) → List (Key × X)
  placed_all [] os = os
  placed_all (w ∷ ws) os = placed_all ws (placed w.0 w.1 os)

  -- the last so many of a list
  abbrev pub last_of : ℕ → List X → List X
  last_of count xs = drop (length xs - count) xs

  -- the numbers of the items are those after this one, without a gap
  unfoldable pub Follow : (X → ℕ) → ℕ → List X → Type 0
  Follow number before [] = Unit {0}
  Follow number before (x ∷ xs) = (number x ≡ before + 1) × Follow number (before + 1) xs

-- the revision of a change
abbrev pub revision_of : Change → ℕ
revision_of c = c.revision

-- what each change leaves at its key
abbrev pub left_by : List Change → List (Key × Option StoredObject)
left_by cs = map (λ c. (c.key, c.new)) cs

-- no change leaves an object
unfoldable pub AreRemovals : List Change → Type 0
AreRemovals [] = Unit {0}
AreRemovals (c ∷ cs) = (c.new ≡ None) × AreRemovals cs

-- one step: nothing, one change, or removals alone
abbrev pub IsStep : List Change → Type 0
IsStep [] = Unit {0}
IsStep (c ∷ []) = Unit {0}
IsStep (c ∷ d ∷ cs) = AreRemovals (c ∷ d ∷ cs)

-- a write is one change that leaves this object or none, and then removals; or nothing
unfoldable pub IsWrite : Option StoredObject → List Change → Type 0
IsWrite kept [] = Unit {0}
IsWrite kept (c ∷ cs) = (kept ≡ c.new) × AreRemovals cs

-- the tree that the first change leaves
abbrev pub first_left : List Change → Option Data
first_left [] = None
first_left (c ∷ cs) = option_map stored_tree c.new

-- the object, if there is one, is the one that the first change leaves
abbrev pub IsLeft : Option Object → List Change → Type 0
IsLeft None cs = Unit {0}
IsLeft (Some o) cs = first_left cs ≡ Some (tree_of o)

-- one change, with this revision, this key and these objects before and after it
pub record IsOne (revision : ℕ) (key : Key) (old new : Option StoredObject) (cs : List Change) : Type 0 where
  pub change : Change
  pub one : cs ≡ change ∷ []
  pub numbered : change.revision ≡ revision
  pub place : change.key ≡ key
  pub before : change.old ≡ old
  pub after : change.new ≡ new
