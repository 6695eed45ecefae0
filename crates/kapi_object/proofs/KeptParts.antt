-- What is kept of an object by its table: the laws of roles and bindings speak of it, row by row.
use Rattle.std.specs.Prelude.{ℕ, List, Option, Some, None, option_map}
use Rattle.serde_json.specs.Data.{Data, string, array, Items, no_members}
use Rattle.kapi_model.specs.Kinds.{rbac_group}
use Rattle.kapi_object.specs.Contents.{text_if, text_of, items_if, read_items, write_items, labels_in, put_labels, text_value, list_value, members_value}
use Rattle.kapi_object.specs.Tree.{member_of, members_or_none}
use Rattle.kapi_object.specs.Shapes.{chosen}
use Rattle.kapi_object.specs.Tables.{word_text}
use Rattle.kapi_object.specs.declared.table.ValueRule.{ValueRule}
use Rattle.kapi_object.specs.declared.table.ValueRule.TheVariants as part
use Rattle.kapi_object.specs.declared.table.Row.{Row}
use Rattle.kapi_object.specs.declared.table.Table.{Table}
use Rattle.kapi_object.specs.declared.table.Written.{Written}
use Rattle.kapi_object.specs.declared.table.Written.TheVariants as written
use Rattle.kapi_object.specs.declared.text_rule.TextRule.{TextRule}
use Rattle.kapi_object.specs.declared.text_rule.TextRule.TheVariants as rule

-- what is kept of the objects of each table
abbrev pub Keeps : Type 0
Keeps = Table → Data → Data

-- a text that is kept: the API group of roles is filled in
abbrev pub filled : TextRule → List ℕ → List ℕ
filled rule.RbacGroup s = rbac_group
filled rule.RbacGroupOrEmpty s = rbac_group
filled _ s = s

-- a list as it is written
abbrev pub written_value : Written → Items → Option Data
written_value written.Always ds = Some (array ds)
written_value written.NotEmpty ds = list_value ds

-- what is kept of the value at a key
abbrev pub part_value : Keeps → ValueRule → Option Data → Option Data
part_value g part.Dropped o = None
part_value g part.Forbidden o = None
part_value g (part.Text r) o = text_value (filled r (text_if o))
part_value g (part.Texts n r) o = list_value (write_items string (read_items text_of (items_if o)))
part_value g part.Labels o = members_value (put_labels (labels_in (members_or_none o)) no_members)
part_value g (part.Object n t) o = option_map (g t) o
part_value g (part.Objects n w t) o = written_value w (write_items (λ d. d) (read_items (g t) (items_if o)))

-- what is kept of an object by one row
abbrev pub row_value : Keeps → Row → Data → Option Data
row_value g r d = part_value g (chosen r.1 d) (member_of (word_text r.0) d)
