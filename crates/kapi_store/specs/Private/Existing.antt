-- A namespace that is known to exist.
use Rattle.std.specs.Prelude.{◌≡◌, ℕ, true, List, Option, None, Some}
use Rattle.kapi_store.specs.Keys.{namespace_key}
use Rattle.kapi_store.specs.Plain.{Plain, has_object}

-- the namespace of this name, if there is one, exists
abbrev pub Exists : Option (List ℕ) → Plain → Type 0
Exists None s = Unit {0}
Exists (Some name) s = has_object (namespace_key name) s ≡ true
