-- What a review of access asks: about which identity, in which namespace, and which point.
use Rattle.std.specs.Prelude.{ℕ, List, [], if◌then◌else◌, codes, unwrap_or}
use Rattle.serde_json.specs.Data.{Data, null}
use Rattle.kapi_object.specs.Contents.{text_at, texts_at}
use Rattle.kapi_object.specs.Tree.{member_of}
use Rattle.kapi_model.specs.declared.identity.Identity.{Identity}
use Rattle.kapi_rules.specs.declared.point.Point.{Point}
use Rattle.kapi_rules.specs.declared.point.Point.TheVariants as point
use Rattle.kapi_reviews.specs.declared.kind.ReviewKind.{ReviewKind}
use Rattle.kapi_reviews.specs.declared.question.Question.{Question}
use Rattle.kapi_reviews.specs.Attributes.{has, resource_in, subresource_in}
use Rattle.kapi_reviews.specs.Kinds.{is_local, tells_subject}

-- the member of a key, or null
abbrev pub at : List ℕ → Data → Data
at key d = unwrap_or (member_of key d) null

-- the caller, or the user and the groups that the review names, with nothing added
abbrev pub asked_identity : ReviewKind → Identity → Data → Identity
asked_identity kind caller spec =
    if tells_subject kind then record { user = text_at (codes "user") spec; groups = texts_at (codes "groups") spec } else caller

-- the namespace in the attributes; for a local review the namespace of the review itself
abbrev pub asked_namespace : ReviewKind → List ℕ → Data → List ℕ
asked_namespace kind namespace d = if is_local kind then namespace else text_at (codes "namespace") d

-- the point of the attributes of a resource
abbrev pub resource_point : Data → Point
resource_point d = point.Resource (record {
  verb = text_at (codes "verb") d;
  group = text_at (codes "group") d;
  resource = resource_in d;
  subresource = subresource_in d;
  name = text_at (codes "name") d;
})

-- the point of the attributes of a path
abbrev pub url_point : Data → Point
url_point d = point.Url (record { verb = text_at (codes "verb") d; path = text_at (codes "path") d })

-- the question of a review's `spec`: a path is asked about cluster-wide
unfoldable pub question : ReviewKind → List ℕ → Identity → Data → Question
question kind namespace caller spec =
    if has (codes "resourceAttributes") spec
    then record {
      identity = asked_identity kind caller spec;
      namespace = asked_namespace kind namespace (at (codes "resourceAttributes") spec);
      point = resource_point (at (codes "resourceAttributes") spec);
    }
    else record {
      identity = asked_identity kind caller spec;
      namespace = [];
      point = url_point (at (codes "nonResourceAttributes") spec);
    }
