-- The test of equality decides equality, if there is no float.
use Rattle.std.proofs.Common.{◌≡◌, Bool, true, false, ◌&&◌, refl, sym, ap, ◌∙◌}
use Rattle.std.specs.Bool.{Decides}
use Rattle.std.specs.Cmp.{first_so, second_so, booleans_Decides, signed_Decides, unsigned_Decides}
use Rattle.std.specs.Str.{bytes_eq}
use Rattle.std.proofs.lemmas.Slice.Eq.{bytes_eq-Decides}
use Rattle.std.proofs.lemmas.Bool.{or_parts, and_from}
use Rattle.serde_json.specs.Data.{Num, unsigned, negative, float, Data, null, boolean, number, string, array, object, Items, no_items, item, Members, no_members, member}
use Rattle.serde_json.specs.Find.{is_float}
use Rattle.serde_json.specs.Written.{has_float, items_have_float, members_have_float}
use Rattle.kapi_store.specs.Same.{same_number, same_tree, same_items, same_members}

number_equal : (m n : Num) → same_number m n ≡ true → m ≡ n
number_equal (unsigned x) (unsigned y) h = ap unsigned ((unsigned_Decides x y).0 h)
number_equal (unsigned x) (negative y) h = absurd (cc h)
number_equal (unsigned x) (float y) h = absurd (cc h)
number_equal (negative x) (unsigned y) h = absurd (cc h)
number_equal (negative x) (negative y) h = ap negative ((signed_Decides x y).0 h)
number_equal (negative x) (float y) h = absurd (cc h)
number_equal (float x) (unsigned y) h = absurd (cc h)
number_equal (float x) (negative y) h = absurd (cc h)
number_equal (float x) (float y) h = absurd (cc h)

mutual
  pub tree_equal : (a b : Data) → same_tree a b ≡ true → a ≡ b
  tree_equal null null h = refl
  tree_equal null (boolean y) h = absurd (cc h)
  tree_equal null (number y) h = absurd (cc h)
  tree_equal null (string y) h = absurd (cc h)
  tree_equal null (array y) h = absurd (cc h)
  tree_equal null (object y) h = absurd (cc h)
  tree_equal (boolean x) null h = absurd (cc h)
  tree_equal (boolean x) (boolean y) h = ap boolean ((booleans_Decides x y).0 h)
  tree_equal (boolean x) (number y) h = absurd (cc h)
  tree_equal (boolean x) (string y) h = absurd (cc h)
  tree_equal (boolean x) (array y) h = absurd (cc h)
  tree_equal (boolean x) (object y) h = absurd (cc h)
  tree_equal (number x) null h = absurd (cc h)
  tree_equal (number x) (boolean y) h = absurd (cc h)
  tree_equal (number x) (number y) h = ap number (number_equal x y h)
  tree_equal (number x) (string y) h = absurd (cc h)
  tree_equal (number x) (array y) h = absurd (cc h)
  tree_equal (number x) (object y) h = absurd (cc h)
  tree_equal (string x) null h = absurd (cc h)
  tree_equal (string x) (boolean y) h = absurd (cc h)
  tree_equal (string x) (number y) h = absurd (cc h)
  tree_equal (string x) (string y) h = ap string ((bytes_eq-Decides x y).0 h)
  tree_equal (string x) (array y) h = absurd (cc h)
  tree_equal (string x) (object y) h = absurd (cc h)
  tree_equal (array x) null h = absurd (cc h)
  tree_equal (array x) (boolean y) h = absurd (cc h)
  tree_equal (array x) (number y) h = absurd (cc h)
  tree_equal (array x) (string y) h = absurd (cc h)
  tree_equal (array x) (array y) h = ap array (items_equal x y h)
  tree_equal (array x) (object y) h = absurd (cc h)
  tree_equal (object x) null h = absurd (cc h)
  tree_equal (object x) (boolean y) h = absurd (cc h)
  tree_equal (object x) (number y) h = absurd (cc h)
  tree_equal (object x) (string y) h = absurd (cc h)
  tree_equal (object x) (array y) h = absurd (cc h)
  tree_equal (object x) (object y) h = ap object (members_equal x y h)

  items_equal : (ds es : Items) → same_items ds es ≡ true → ds ≡ es
  items_equal no_items no_items h = refl
  items_equal no_items (item e es) h = absurd (cc h)
  items_equal (item d ds) no_items h = absurd (cc h)
  items_equal (item d ds) (item e es) h =
      ap (λ t. item t ds) (tree_equal d e (first_so (same_tree d e) (same_items ds es) h)) ∙ ap (item e) (items_equal ds es (second_so (same_tree d e) (same_items ds es) h))

  members_equal : (ms ns : Members) → same_members ms ns ≡ true → ms ≡ ns
  members_equal no_members no_members h = refl
  members_equal no_members (member l e ns) h = absurd (cc h)
  members_equal (member k d ms) no_members h = absurd (cc h)
  members_equal (member k d ms) (member l e ns) h =
      let rest : (same_tree d e && same_members ms ns) ≡ true = second_so (bytes_eq k l) (same_tree d e && same_members ms ns) h in
      ap (λ t. member t d ms) ((bytes_eq-Decides k l).0 (first_so (bytes_eq k l) (same_tree d e && same_members ms ns) h))
      ∙ ap (λ t. member l t ms) (tree_equal d e (first_so (same_tree d e) (same_members ms ns) rest))
      ∙ ap (member l e) (members_equal ms ns (second_so (same_tree d e) (same_members ms ns) rest))

number_same : (n : Num) → is_float n ≡ false → same_number n n ≡ true
number_same (unsigned x) h = (unsigned_Decides x x).1 refl
number_same (negative x) h = (signed_Decides x x).1 refl
number_same (float x) h = absurd (cc h)

mutual
  tree_same : (a : Data) → has_float a ≡ false → same_tree a a ≡ true
  tree_same null h = refl
  tree_same (boolean b) h = (booleans_Decides b b).1 refl
  tree_same (number n) h = number_same n h
  tree_same (string s) h = (bytes_eq-Decides s s).1 refl
  tree_same (array ds) h = items_same ds h
  tree_same (object ms) h = members_same ms h

  items_same : (ds : Items) → items_have_float ds ≡ false → same_items ds ds ≡ true
  items_same no_items h = refl
  items_same (item d ds) h =
      let parts = or_parts (has_float d) (items_have_float ds) h in
      and_from (same_tree d d) (same_items ds ds) (tree_same d parts.0) (items_same ds parts.1)

  members_same : (ms : Members) → members_have_float ms ≡ false → same_members ms ms ≡ true
  members_same no_members h = refl
  members_same (member k d ms) h =
      let parts = or_parts (has_float d) (members_have_float ms) h in
      and_from (bytes_eq k k) (same_tree d d && same_members ms ms) ((bytes_eq-Decides k k).1 refl)
      (and_from (same_tree d d) (same_members ms ms) (tree_same d parts.0) (members_same ms parts.1))

-- the test of a tree without a float against another decides whether they are equal
pub same_decides : (a b : Data) → has_float a ≡ false → Decides (same_tree a b) (a ≡ b)
same_decides a b h = (tree_equal a b, λ is. ap (same_tree a) (sym is) ∙ tree_same a h)

-- trees that are equal are found to be, and others are not
pub found_same : (a b : Data) → has_float b ≡ false → a ≡ b → same_tree a b ≡ true
found_same a b h is = ap (λ d. same_tree d b) is ∙ tree_same b h

pub found_other : (a b : Data) → (a ≡ b → ⊥) → same_tree a b ≡ false
found_other a b other = elim (same_tree a b) as (λ t. same_tree a b ≡ t → t ≡ false) [
  | true ↦ λ is. absurd (other (tree_equal a b is))
  | false ↦ λ is. refl
] refl

-- two tests that decide the same are equal
pub decided_alike : {P : Type 0} (a b : Bool) → Decides a P → Decides b P → a ≡ b
decided_alike true true p q = refl
decided_alike true false p q = sym (q.1 (p.0 refl))
decided_alike false true p q = p.1 (q.0 refl)
decided_alike false false p q = refl
