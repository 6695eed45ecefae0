-- Labels in the order of their keys, among which one is searched for.
use Rattle.std.specs.Prelude.{List}
use Rattle.std.specs.Cmp.Lexicographic.{slice_cmp}
use Rattle.std.specs.List.Sorted.{IsStrictlySortedBy}
use Rattle.std.specs.Ordering.{nat_cmp}
use Rattle.std.specs.declared.cmp.Ordering.{Ordering}
use Rattle.kapi_model.specs.declared.selector.Label.{Label}

-- labels in the order of their keys, by bytes
abbrev pub label_cmp : Label → Label → Ordering
label_cmp a b = slice_cmp nat_cmp a.key b.key

-- each label's key comes before those of all later ones
abbrev pub AreInOrder : List Label → Type 0
AreInOrder = IsStrictlySortedBy label_cmp
