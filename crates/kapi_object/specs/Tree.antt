-- Trees: JSON values as plain data (RFC 8259).
use Rattle.std.specs.Prelude.{ℕ, List, Bool, true, false, not, Option, Some, None, codes, option_and_then, option_map, unwrap_or, if◌then◌else◌}
use Rattle.std.specs.Str.{bytes_eq, is_utf8}
use Rattle.serde_json.specs.Data.{Data, null, string, object, Items, no_items, item, Members, no_members, member, put}
use Rattle.serde_json.specs.Find.{get, as_object}
use Rattle.serde_json.specs.Read.{read}

-- the JSON object that the bytes are, if they are one (RFC 8259)
unfoldable pub json_object : List ℕ → Option Data
json_object text = if is_utf8 text then option_map object (option_and_then as_object (read text)) else None

-- the value, or none if it is null
abbrev pub unless_null : Data → Option Data
unless_null null = None
unless_null d = Some d

-- an object without members
abbrev pub is_empty_object : Data → Bool
is_empty_object (object no_members) = true
is_empty_object _ = false

-- the member of a key
abbrev pub member_of : List ℕ → Data → Option Data
member_of key d = option_and_then unless_null (get key d)

-- the members of an object, and none of anything else
abbrev pub members_or_none : Option Data → Members
members_or_none o = unwrap_or (option_and_then as_object o) no_members

-- the members of an object's `metadata`; none if it is missing or no object
abbrev pub metadata_of : Data → Members
metadata_of tree = members_or_none (get (codes "metadata") tree)

-- the value at a key of an object's `metadata`; none if the metadata is missing or no object
abbrev pub in_metadata : List ℕ → Data → Option Data
in_metadata key tree = option_and_then (get key) (get (codes "metadata") tree)

-- the member of a key of an object's `metadata`; null is as if the member were absent
abbrev pub metadata_member : List ℕ → Data → Option Data
metadata_member key tree = option_and_then unless_null (in_metadata key tree)

-- the tree with these members as its metadata; anything but an object has no other members
abbrev pub with_metadata : Members → Data → Data
with_metadata ms tree = object (put (codes "metadata") (object ms) (members_or_none (Some tree)))

-- the tree with one text set in its metadata
abbrev pub with_text : List ℕ → List ℕ → Data → Data
with_text key text tree = with_metadata (put key (string text) (metadata_of tree)) tree

-- the members with the value, if there is one
abbrev pub put_if : List ℕ → Option Data → Members → Members
put_if key None ms = ms
put_if key (Some d) ms = put key d ms

-- the object of the tree's version, kind and metadata that has these members beside them
unfoldable pub with_content : Members → Data → Data
with_content content tree =
    object (put_if (codes "metadata") (get (codes "metadata") tree)
    (put_if (codes "kind") (get (codes "kind") tree)
    (put_if (codes "apiVersion") (get (codes "apiVersion") tree) content)))

-- the members whose keys pass
abbrev pub filter_members : (List ℕ → Bool) → Members → Members
filter_members passes no_members = no_members
filter_members passes (member key d ms) = if passes key then member key d (filter_members passes ms) else filter_members passes ms

-- the members without the one of a key
abbrev pub without : List ℕ → Members → Members
without key ms = filter_members (λ other. not (bytes_eq key other)) ms

-- an object without the member of a key; anything else has none
abbrev pub without_member : List ℕ → Data → Data
without_member key (object ms) = object (without key ms)
without_member key d = d

-- the tree with another's value at a key, and without the key if the other has none; anything but an object has no
-- other members
abbrev pub with_member_of : List ℕ → Data → Data → Data
with_member_of key other tree = object (put_if key (get key other) (without key (members_or_none (Some tree))))

-- a list without elements
abbrev pub is_empty : Items → Bool
is_empty no_items = true
is_empty (item d ds) = false
