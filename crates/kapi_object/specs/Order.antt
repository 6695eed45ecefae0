-- Trees with the members of each object in the order of their keys (RFC 8259, section 4, leaves the order open).
use Rattle.std.specs.Prelude.{ℕ, List, Bool, true, ◌&&◌}
use Rattle.std.specs.Cmp.Lexicographic.{slice_cmp}
use Rattle.std.specs.Ordering.{nat_cmp, is_lt}
use Rattle.serde_json.specs.Data.{Data, null, boolean, number, string, array, object, Items, no_items, item, Members, no_members, member}

-- the key comes before those of the members, by its bytes
abbrev pub precedes : List ℕ → Members → Bool
precedes key no_members = true
precedes key (member l d ms) = is_lt (slice_cmp nat_cmp key l) && precedes key ms

-- in each object of the tree, at any depth, the keys are in the order of their bytes, each once
abbrev mutual
  pub is_ordered : Data → Bool
  is_ordered null = true
  is_ordered (boolean b) = true
  is_ordered (number n) = true
  is_ordered (string s) = true
  is_ordered (array ds) = are_ordered ds
  is_ordered (object ms) = in_order ms

  -- in each item of a list the keys are in order
  pub are_ordered : Items → Bool
  are_ordered no_items = true
  are_ordered (item d ds) = is_ordered d && are_ordered ds

  -- the members of an object are in the order of their keys, and so are those of each value
  pub in_order : Members → Bool
  in_order no_members = true
  in_order (member k d ms) = precedes k ms && (is_ordered d && in_order ms)
