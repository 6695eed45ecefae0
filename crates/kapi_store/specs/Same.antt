-- When two trees are equal, as a test.
use Rattle.std.specs.Prelude.{Bool, true, false, ◌&&◌, ◌==◌}
use Rattle.std.specs.Bool.{beq}
use Rattle.std.specs.Ordering.{int_eq}
use Rattle.std.specs.Str.{bytes_eq}
use Rattle.serde_json.specs.Data.{Num, unsigned, negative, Data, null, boolean, number, string, array, object, Items, no_items, item, Members, no_members, member}

-- equal numbers that are no floats
abbrev pub same_number : Num → Num → Bool
same_number (unsigned m) (unsigned n) = m == n
same_number (negative y) (negative z) = int_eq y z
same_number _ _ = false

-- equal trees: the same value, item by item and member by member; a tree with a float is equal to none
abbrev mutual
  pub same_tree : Data → Data → Bool
  same_tree null null = true
  same_tree (boolean a) (boolean b) = beq a b
  same_tree (number m) (number n) = same_number m n
  same_tree (string s) (string t) = bytes_eq s t
  same_tree (array ds) (array es) = same_items ds es
  same_tree (object ms) (object ns) = same_members ms ns
  same_tree _ _ = false

  -- as many items, each equal to the one at its place
  pub same_items : Items → Items → Bool
  same_items no_items no_items = true
  same_items (item d ds) (item e es) = same_tree d e && same_items ds es
  same_items _ _ = false

  -- as many members, each of the key and value of the one at its place
  pub same_members : Members → Members → Bool
  same_members no_members no_members = true
  same_members (member k d ms) (member l e ns) = bytes_eq k l && (same_tree d e && same_members ms ns)
  same_members _ _ = false
