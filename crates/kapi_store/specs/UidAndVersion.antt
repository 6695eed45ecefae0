-- What a write sets in an object's metadata (Kubernetes, 'Object Names and IDs' and 'Kubernetes API Concepts').
use Rattle.std.specs.Prelude.{ℕ, zero, suc, ◌/◌, ◌%◌, false, List, [], ◌∷◌, ◌++◌, codes, unwrap_or, option_and_then}
use Rattle.std.specs.Fmt.{digit_glyph, decimal}
use Rattle.serde_json.specs.Data.{Data}
use Rattle.serde_json.specs.Find.{as_str}
use Rattle.kapi_object.specs.Object.{stamped_tree}
use Rattle.kapi_object.specs.Tree.{in_metadata}

-- the last hexadecimal digits of a number, so many, in lower case
unfoldable pub hex_digits : ℕ → ℕ → List ℕ
hex_digits zero n = []
hex_digits (suc k) n = hex_digits k (n / 16) ++ digit_glyph false (n % 16) ∷ []

-- the unique id of an object: a UUID (RFC 9562) that ends in the twelve digits of the revision that created it
unfoldable pub uid_of : ℕ → List ℕ
uid_of revision = codes "00000000-0000-4000-8000-" ++ hex_digits 12 revision

-- the tree of an object as its creation at a revision leaves it
abbrev pub created_tree : ℕ → Data → Data
created_tree revision tree = stamped_tree (uid_of revision) (decimal revision) tree

-- the text at a key of a tree's metadata; empty if there is none
abbrev pub metadata_text : List ℕ → Data → List ℕ
metadata_text key tree = unwrap_or (option_and_then as_str (in_metadata key tree)) []

-- the unique id that a tree has
abbrev pub uid_in : Data → List ℕ
uid_in tree = metadata_text (codes "uid") tree

-- the version that a tree has
abbrev pub version_in : Data → List ℕ
version_in tree = metadata_text (codes "resourceVersion") tree

-- a tree if nothing else is changed: with the old one's unique id and version
abbrev pub with_stamps_of : Data → Data → Data
with_stamps_of old tree = stamped_tree (uid_in old) (version_in old) tree

-- a tree as its write at a revision over an old one leaves it: with the old one's unique id, at that revision
abbrev pub replaced_tree : ℕ → Data → Data → Data
replaced_tree revision old tree = stamped_tree (uid_in old) (decimal revision) (with_stamps_of old tree)
