-- The slot of an object that is still to be created.
use Rattle.std.specs.Prelude.{◌≡◌, Bool, false, not, if◌then◌else◌, List, Option, None, Some, option_map}
use Rattle.std.specs.List.{filter}
use Rattle.std.specs.Map.{lookup}
use Rattle.kapi_store.specs.declared.key.Key.{Key}
use Rattle.kapi_store.specs.declared.slots.Hidden.{Hidden}
use Rattle.kapi_store.specs.declared.stored.StoredObject.{StoredObject}
use Rattle.kapi_store.specs.Keys.{is_key}

-- whether a key is that of the hidden slot
abbrev pub hides : Option Hidden → Key → Bool
hides None k = false
hides (Some hidden) k = is_key hidden.key k

-- the key of the hidden slot
abbrev pub hidden_key : Option Hidden → Option Key
hidden_key hidden = option_map (λ h. h.key) hidden

-- the hidden slot holds its object
abbrev pub HoldsHidden : Option Hidden → List (Key × StoredObject) → Type 0
HoldsHidden None es = Unit {0}
HoldsHidden (Some hidden) es = lookup (is_key hidden.key) es ≡ Some hidden.object

module _ {X : Type 0} where
  -- the entries but for that of the hidden slot
  unfoldable pub visible : Option Hidden → List (Key × X) → List (Key × X)
  visible hidden es = filter (λ e. not (hides hidden e.0)) es

  -- an entry as contracts see it: the hidden slot is an empty one
  abbrev pub seen : Option Hidden → Key × X → Key × Option X
  seen hidden e = (e.0, if hides hidden e.0 then None else Some e.1)
