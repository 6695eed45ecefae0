-- A JSON merge patch (RFC 7396 section 2).
use Rattle.std.specs.Prelude.{ℕ, List, if◌then◌else◌, unwrap_or}
use Rattle.std.specs.Str.{bytes_eq}
use Rattle.serde_json.specs.Data.{Data, null, boolean, number, string, array, object, Members, no_members, member, put}
use Rattle.serde_json.specs.Find.{as_object, get_member}

-- the members without the one of a name; an object has each name once
abbrev pub without : List ℕ → Members → Members
without name no_members = no_members
without name (member other value ms) = if bytes_eq name other then ms else member other value (without name ms)

-- the value of a name; null if there is none, which is no object either
abbrev pub value_at : List ℕ → Members → Data
value_at name ms = unwrap_or (get_member name ms) null

-- the members of an object; anything else is as an object without any
abbrev pub members_or_none : Data → Members
members_or_none d = unwrap_or (as_object d) no_members

-- a name takes its new value, and is taken out if the patch has null for it
abbrev pub changed : List ℕ → Data → Data → Members → Members
changed name null value ms = without name ms
changed name patch value ms = put name value ms

-- the merge patch of a target, and of the members of one
abbrev mutual
  -- a target with a patch applied: an object changes each name that it has, anything else is put in the target's place
  pub merged : Data → Data → Data
  merged target null = null
  merged target (boolean b) = boolean b
  merged target (number n) = number n
  merged target (string s) = string s
  merged target (array ds) = array ds
  merged target (object patches) = object (all_merged (members_or_none target) patches)

  -- members with the patches of an object applied, name by name
  pub all_merged : Members → Members → Members
  all_merged ms no_members = ms
  all_merged ms (member name patch patches) = all_merged (changed name patch (merged (value_at name ms) patch) ms) patches
