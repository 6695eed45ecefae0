-- What a proof unfolds to compute this crate's definitions on literals, and some rows.
use Rattle.std.proofs.Common.{◌≡◌, [], Err, codes, refl}
use Rattle.std.specs.Prelude.{⊤}
use Rattle.std.specs.Fmt.{digits}
use Rattle.serde_json.specs.Data.{object, no_members}
use Rattle.kapi_store.specs.Faults.{RevisionsUsedUp}
use Rattle.kapi_store.specs.Keys.{namespace_key}
use Rattle.kapi_store.specs.UidAndVersion.{hex_digits, uid_of}
use Rattle.kapi_store.specs.Changes.{placed, placed_all}
use Rattle.kapi_store.specs.Plain.{opened, has_object, has_namespace, free_place, revisions_left, removable, removals, changes_after, creation}

unfoldable pub store_on_literals : ⊤
unfolding digits hex_digits uid_of placed placed_all has_object has_namespace free_place revisions_left removable removals changes_after
store_on_literals = tt

pub uid_of-six : uid_of 6 ≡ codes "00000000-0000-4000-8000-000000000006"
unfolding store_on_literals
uid_of-six = refl

pub uid_of-byte : uid_of 255 ≡ codes "00000000-0000-4000-8000-0000000000ff"
unfolding store_on_literals
uid_of-byte = refl

pub uid_of-last : uid_of 281474976710655 ≡ codes "00000000-0000-4000-8000-ffffffffffff"
unfolding store_on_literals
uid_of-last = refl

pub creation-last : creation (opened [] 281474976710655) (namespace_key (codes "default")) (object no_members) ≡ Err RevisionsUsedUp
unfolding store_on_literals
creation-last = refl
