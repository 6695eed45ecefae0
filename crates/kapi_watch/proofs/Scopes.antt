-- A key is within a scope, in whichever order its parts are compared; and a change at a key that is not shows nothing.
use Rattle.std.proofs.Common.{◌≡◌, Bool, true, false, ◌&&◌, Option, None, Some, refl}
use Rattle.serde_json.specs.Data.{Data}
use Rattle.kapi_store.specs.Listing.{is_within, is_listed}
use Rattle.kapi_store.specs.Plain.{PlainChange}
use Rattle.kapi_store.specs.declared.key.Key.{Key}
use Rattle.kapi_watch.specs.Shown.{selected, shown_of}
use Rattle.kapi_watch.specs.declared.scope.WatchScope.{WatchScope}

-- the first and the third of four conditions change places
pub is_within_swaps : (group plural namespace name : Bool) → namespace && (plural && (group && name)) ≡ group && (plural && (namespace && name))
is_within_swaps true true true name = refl
is_within_swaps true true false name = refl
is_within_swaps true false true name = refl
is_within_swaps true false false name = refl
is_within_swaps false true true name = refl
is_within_swaps false true false name = refl
is_within_swaps false false true name = refl
is_within_swaps false false false name = refl

-- the key is within the scope
abbrev pub is_in_scope : WatchScope → Key → Bool
is_in_scope s k = is_within s.row s.namespace s.name k

out_selects : (s : WatchScope) (k : Key) → is_in_scope s k ≡ false → (o : Option Data) → selected s k o ≡ None
unfolding is_listed
out_selects s k out None = refl
out_selects s k out (Some tree) = rw out refl

-- a change at a key that is not within the scope shows nothing
pub out_shows : (s : WatchScope) (c : PlainChange) → is_in_scope s c.key ≡ false → shown_of s c ≡ None
unfolding shown_of
out_shows s c out = rw (out_selects s c.key out c.old, out_selects s c.key out c.new) refl
