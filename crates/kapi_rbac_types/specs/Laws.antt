-- When what was read of an object is written as that object, and what was written is read.
use Rattle.std.specs.Prelude.{◌≡◌, ℕ, List, [], ◌∷◌, Option, Some, None}
use Rattle.std.specs.Cmp.Lexicographic.{slice_cmp}
use Rattle.std.specs.Ordering.{nat_cmp}
use Rattle.std.specs.declared.cmp.Ordering.TheVariants.{Less}
use Rattle.serde_json.specs.Data.{Data, Members}
use Rattle.kapi_model.specs.declared.row.ResourceRow.{ResourceRow}
use Rattle.kapi_model.specs.declared.row.Schema.{Schema}
use Rattle.kapi_model.specs.declared.selector.Label.{Label}
use Rattle.kapi_model.specs.declared.selector.Selector.{Selector}
use Rattle.kapi_object.specs.Admission.{filled}
use Rattle.kapi_object.specs.Tree.{with_metadata}
use Rattle.kapi_model.specs.declared.aggregation_rule.AggregationRule.{AggregationRule}

-- the tree is what a resource type with this schema keeps of a body, with any metadata
abbrev pub IsKept : Schema → Data → Type 0
IsKept schema tree = (row : ResourceRow) × (body : Data) × (ms : Members) × (row.schema ≡ schema) × (tree ≡ with_metadata ms (filled row body))

-- the key comes before those of the labels, by bytes
abbrev pub Precedes : List ℕ → List Label → Type 0
Precedes key [] = Unit {0}
Precedes key (l ∷ ls) = (slice_cmp nat_cmp key l.key ≡ Less) × Precedes key ls

-- the labels are in the order of their keys, each key once
abbrev pub IsInOrder : List Label → Type 0
IsInOrder [] = Unit {0}
IsInOrder (l ∷ ls) = Precedes l.key ls × IsInOrder ls

-- the labels of each selector are in the order of their keys, each key once
abbrev pub AreInOrder : List Selector → Type 0
AreInOrder [] = Unit {0}
AreInOrder (s ∷ ss) = IsInOrder s.match_labels × AreInOrder ss

-- the labels of an aggregation rule's selectors are in the order of their keys, each key once
abbrev pub IsOrdered : Option AggregationRule → Type 0
IsOrdered None = Unit {0}
IsOrdered (Some rule) = AreInOrder rule.cluster_role_selectors
