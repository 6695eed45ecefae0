-- What an object specifies as its name, its namespace and its resource version.
use Rattle.std.specs.Prelude.{Option, Some, None, codes, if◌then◌else◌}
use Rattle.serde_json.specs.Data.{Data, string}
use Rattle.kapi_object.specs.declared.body_fields.Given.{Given}
use Rattle.kapi_object.specs.declared.body_fields.GivenText.{GivenText}
use Rattle.kapi_object.specs.declared.body_fields.GivenText.TheVariants.{Absent, Text, Mistyped}
use Rattle.kapi_model.specs.declared.row.ResourceRow.{ResourceRow}
use Rattle.kapi_object.specs.Tree.{metadata_member}

-- the text that a member specifies
abbrev pub text_given : Option Data → GivenText
text_given None = Absent
text_given (Some (string s)) = Text s
text_given (Some _) = Mistyped

-- what the tree's metadata specifies
abbrev pub given_of : Data → Given
given_of tree = record {
  name = text_given (metadata_member (codes "name") tree);
  namespace = text_given (metadata_member (codes "namespace") tree);
  resource_version = text_given (metadata_member (codes "resourceVersion") tree);
}

-- what a body of a resource type specifies: a namespace only if the resource type has namespaces
unfoldable pub given_on : ResourceRow → Data → Given
given_on row tree = if row.namespaced then given_of tree else record (given_of tree) { namespace = Absent }
