-- The unique id and the version that a tree has where they were set.
use Rattle.std.proofs.Common.{◌≡◌, ◌∙◌, ℕ, List, Some, refl, ap, codes}
use Rattle.std.specs.Option.{option_and_then}
use Rattle.serde_json.specs.Data.{Data}
use Rattle.serde_json.specs.Find.{as_str}
use Rattle.kapi_object.proofs.SetTexts.{in_text, text_set}
use Rattle.kapi_object.specs.Object.{stamped_tree}
use Rattle.kapi_object.specs.Tree.{in_metadata, with_text}
use Rattle.kapi_store.specs.UidAndVersion.{uid_in, version_in, with_stamps_of}

pub uid_stays : (version : List ℕ) (d : Data) → option_and_then as_str (in_metadata (codes "uid") (with_text (codes "resourceVersion") version d)) ≡ option_and_then as_str (in_metadata (codes "uid") d)
uid_stays version d = ap (option_and_then as_str) (in_text (codes "uid") (codes "resourceVersion") version d refl)

pub uid_there : (uid version : List ℕ) (d : Data) → option_and_then as_str (in_metadata (codes "uid") (stamped_tree uid version d)) ≡ Some uid
uid_there uid version d = uid_stays version (with_text (codes "uid") uid d) ∙ ap (option_and_then as_str) (text_set (codes "uid") uid d)

pub version_there : (version : List ℕ) (d : Data) → option_and_then as_str (in_metadata (codes "resourceVersion") (with_text (codes "resourceVersion") version d)) ≡ Some version
version_there version d = ap (option_and_then as_str) (text_set (codes "resourceVersion") version d)

-- what has the stamps of an old object has its unique id
pub old_uid : (old tree d : Data) → d ≡ with_stamps_of old tree → option_and_then as_str (in_metadata (codes "uid") d) ≡ Some (uid_in old)
old_uid old tree d is = ap (λ (e : Data). option_and_then as_str (in_metadata (codes "uid") e)) is ∙ uid_there (uid_in old) (version_in old) tree
