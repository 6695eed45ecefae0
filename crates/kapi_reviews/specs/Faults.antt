-- What is wrong with a review, in the order of its members.
use Rattle.std.specs.Prelude.{ℕ, List, [], ◌∷◌, ◌++◌, length, Bool, not, ◌||◌, ◌==◌, if◌then◌else◌, Option, Some, None, codes}
use Rattle.serde_json.specs.Data.{Data}
use Rattle.kapi_model.specs.declared.fault.FieldFault.{FieldFault}
use Rattle.kapi_model.specs.declared.fault.FaultKind.TheVariants.{Required, NotAllowedHere}
use Rattle.kapi_model.specs.declared.row.Schema.TheVariants as schema
use Rattle.kapi_model.specs.FaultKind.{fault}
use Rattle.kapi_object.specs.Tree.{member_of, metadata_member}
use Rattle.kapi_object.specs.Contents.{text_if}
use Rattle.kapi_object.specs.declared.text_rule.TextRule.{TextRule}
use Rattle.kapi_object.specs.declared.text_rule.TextRule.TheVariants as rule
use Rattle.kapi_object.specs.declared.typed_list.Presence.TheVariants as need
use Rattle.kapi_object.specs.Admission.{faults_on}
use Rattle.kapi_object.specs.Typed.{is_given, list_faults_at, object_faults, text_faults_at, text_item_faults}
use Rattle.kapi_reviews.specs.declared.kind.ReviewKind.{ReviewKind}
use Rattle.kapi_reviews.specs.Attributes.{has, is_right_namespace, is_right_resource, is_right_subresource}
use Rattle.kapi_reviews.specs.Kinds.{asks_rules, is_local, tells_subject}

-- a text that may be any, or else has a rule
unfoldable pub any_or : Bool → TextRule → TextRule
any_or free r = if free then rule.Any else r

-- what is wrong with the attributes of a resource, member by member; a text that is not right is never empty
unfoldable pub resource_member_faults : ReviewKind → List ℕ → List ℕ → Data → List FieldFault
resource_member_faults kind namespace path d =
    text_faults_at (any_or (is_right_namespace kind namespace d) rule.Empty) path (codes "namespace") d
    ++ text_faults_at rule.Any path (codes "verb") d
    ++ text_faults_at rule.Any path (codes "group") d
    ++ text_faults_at (any_or (is_right_resource d) rule.Empty) path (codes "resource") d
    ++ text_faults_at (any_or (is_right_subresource d) rule.Empty) path (codes "subresource") d
    ++ text_faults_at rule.Any path (codes "name") d

-- what is wrong with the attributes of a resource, which must be there in a local review, and where those of a path are not
unfoldable pub resource_faults : ReviewKind → List ℕ → Data → Option Data → List FieldFault
resource_faults kind namespace spec None =
    if is_local kind || not (has (codes "nonResourceAttributes") spec) then fault (codes "spec.resourceAttributes") Required ∷ [] else []
resource_faults kind namespace spec (Some d) = object_faults (resource_member_faults kind namespace) (codes "spec.resourceAttributes") d

-- what is wrong with the attributes of a path, member by member
abbrev pub url_member_faults : List ℕ → Data → List FieldFault
url_member_faults path d = text_faults_at rule.Any path (codes "path") d ++ text_faults_at rule.Any path (codes "verb") d

-- what is wrong with the attributes of a path; if they may not be, in a local review or beside those of a resource, their
-- members are not checked
unfoldable pub url_faults : ReviewKind → Data → Option Data → List FieldFault
url_faults kind spec None = []
url_faults kind spec (Some d) =
    if is_local kind || has (codes "resourceAttributes") spec then fault (codes "spec.nonResourceAttributes") NotAllowedHere ∷ []
    else object_faults url_member_faults (codes "spec.nonResourceAttributes") d

-- what is wrong with the user and the groups: a user must be named if no group is
unfoldable pub subject_faults : Data → List FieldFault
subject_faults spec =
    text_faults_at (any_or (is_given (member_of (codes "groups") spec)) rule.NotEmpty) (codes "spec") (codes "user") spec
    ++ list_faults_at (text_item_faults rule.Any) need.Optional (codes "spec") (codes "groups") spec

-- what is wrong with the members of `spec`; a review of rules names a namespace
unfoldable pub spec_member_faults : ReviewKind → List ℕ → List ℕ → Data → List FieldFault
spec_member_faults kind namespace path spec =
    if asks_rules kind then text_faults_at rule.NotEmpty path (codes "namespace") spec
    else resource_faults kind namespace spec (member_of (codes "resourceAttributes") spec)
    ++ url_faults kind spec (member_of (codes "nonResourceAttributes") spec)
    ++ (if tells_subject kind then subject_faults spec else [])

-- what is wrong with a `spec` that may be missing, in a review in the namespace
unfoldable pub spec_faults : ReviewKind → List ℕ → Option Data → List FieldFault
spec_faults kind namespace None = fault (codes "spec") Required ∷ []
spec_faults kind namespace (Some d) = object_faults (spec_member_faults kind namespace) (codes "spec") d

-- the namespace that a review is in
abbrev pub namespace_of : Data → List ℕ
namespace_of tree = text_if (metadata_member (codes "namespace") tree)

-- what is wrong with a review: with its metadata, or else with its `spec`
unfoldable pub review_faults : ReviewKind → Data → List FieldFault
review_faults kind tree =
    if length (faults_on schema.Open tree) == 0 then spec_faults kind (namespace_of tree) (member_of (codes "spec") tree)
    else faults_on schema.Open tree
