-- What is wrong with an object by its table, in the order of the rows.
use Rattle.std.specs.Prelude.{ℕ, zero, suc, List, [], ◌∷◌, ◌++◌, length, Bool, true, not, ◌||◌, ◌==◌, if◌then◌else◌, Option, Some, None}
use Rattle.std.specs.Str.{bytes_eq}
use Rattle.serde_json.specs.Data.{Data, object}
use Rattle.kapi_model.specs.declared.fault.FieldFault.{FieldFault}
use Rattle.kapi_model.specs.declared.fault.FaultKind.TheVariants.{NotAllowedHere}
use Rattle.kapi_model.specs.declared.row.Schema.{Schema}
use Rattle.kapi_model.specs.declared.row.Schema.TheVariants as schema
use Rattle.kapi_model.specs.FaultKind.{fault}
use Rattle.kapi_object.specs.Contents.{text_at}
use Rattle.kapi_object.specs.Tree.{member_of}
use Rattle.kapi_object.specs.declared.metadata.Entries.TheVariants.{Labels}
use Rattle.kapi_object.specs.declared.table.Choice.{Choice}
use Rattle.kapi_object.specs.declared.table.Choice.TheVariants.{One, Two, Three}
use Rattle.kapi_object.specs.declared.table.ValueRule.{ValueRule}
use Rattle.kapi_object.specs.declared.table.ValueRule.TheVariants as part
use Rattle.kapi_object.specs.declared.table.Row.{Row}
use Rattle.kapi_object.specs.declared.table.Table.{Table}
use Rattle.kapi_object.specs.declared.table.Table.TheVariants as table
use Rattle.kapi_object.specs.declared.table.When.{When}
use Rattle.kapi_object.specs.declared.table.When.TheVariants as when
use Rattle.kapi_object.specs.declared.text_rule.TextRule.TheVariants as rule
use Rattle.kapi_object.specs.declared.typed_list.Presence.{Presence}
use Rattle.kapi_object.specs.Faults.{entries_faults}
use Rattle.kapi_object.specs.Tables.{rows_of, word_text}
use Rattle.kapi_object.specs.Typed.{is_given, is_right, list_faults, member_path, need_faults, object_faults, text_faults, text_item_faults}

-- whether a condition holds of an object; a text that is absent or mistyped is as the empty one
abbrev pub passes : When → Data → Bool
passes (when.Given key) d = is_given (member_of (word_text key) d)
passes (when.Filled key) d = not (length (text_at (word_text key) d) == 0)
passes (when.Says key one other) d = bytes_eq (text_at (word_text key) d) (word_text one) || bytes_eq (text_at (word_text key) d) (word_text other)
passes (when.Keeps key rule) d = is_right rule (text_at (word_text key) d)

-- the part that is chosen: the part of the first condition that holds, else the last
abbrev pub chosen : Choice → Data → ValueRule
chosen (One p) d = p
chosen (Two w p q) d = if passes w d then p else q
chosen (Three w p v q r) d = if passes w d then p else (if passes v d then q else r)

-- a function from tables to what is wrong with the members of an object
abbrev pub Says : Type 0
Says = Table → List ℕ → Data → List FieldFault

-- what is wrong with a value if none may be
abbrev pub forbidden_faults : List ℕ → Option Data → List FieldFault
forbidden_faults path None = []
forbidden_faults path (Some d) = fault path NotAllowedHere ∷ []

-- what is wrong with an element if one may be
abbrev pub element_faults : (List ℕ → Data → List FieldFault) → Presence → List ℕ → Option Data → List FieldFault
element_faults f n path None = need_faults n true path
element_faults f n path (Some d) = f path d

-- what is wrong with the value at a key
unfoldable pub part_faults : Says → ValueRule → List ℕ → Option Data → List FieldFault
part_faults f part.Dropped path o = []
part_faults f part.Forbidden path o = forbidden_faults path o
part_faults f (part.Text r) path o = text_faults r path o
part_faults f (part.Texts n r) path o = list_faults (text_item_faults r) n path o
part_faults f part.Labels path o = entries_faults Labels path o
part_faults f (part.Object n t) path o = element_faults (object_faults (f t)) n path o
part_faults f (part.Objects n w t) path o = list_faults (object_faults (f t)) n path o

-- what is wrong with an object by one row
abbrev pub row_faults : Says → Row → List ℕ → Data → List FieldFault
row_faults f r path d = part_faults f (chosen r.1 d) (member_path path (word_text r.0)) (member_of (word_text r.0) d)

-- what is wrong with an object by all rows, in order
unfoldable pub rows_faults : Says → List Row → List ℕ → Data → List FieldFault
rows_faults f [] path d = []
rows_faults f (r ∷ rs) path d = row_faults f r path d ++ rows_faults f rs path d

-- what is wrong with an object by a table, so many levels of objects in objects deep
abbrev pub table_faults : ℕ → Says
table_faults zero table path d = []
table_faults (suc n) table path d = rows_faults (table_faults n) (rows_of table) path d

-- the levels of a cluster role: it, its aggregation rule, the selectors, and their requirements
abbrev pub levels : ℕ
levels = 4

-- what is wrong with the members of a tree beside its metadata, by the resource type's schema
abbrev pub typed_faults : Schema → Data → List FieldFault
typed_faults schema.Open tree = []
typed_faults schema.Role tree = table_faults levels table.Role [] tree
typed_faults schema.ClusterRole tree = table_faults levels table.ClusterRole [] tree
typed_faults schema.RoleBinding tree = table_faults levels table.RoleBinding [] tree
typed_faults schema.ClusterRoleBinding tree = table_faults levels table.ClusterRoleBinding [] tree
