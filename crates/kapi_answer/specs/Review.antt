-- The answer to a review, which is not kept (Kubernetes API, authorization.k8s.io/v1).
use Rattle.std.specs.Prelude.{ℕ, if◌then◌else◌, List, [], Option, None, Result, Ok}
use Rattle.kapi_text.specs.ResultIs.{◌>>=◌}
use Rattle.kapi_http.specs.declared.message.StatusCode.TheVariants as status
use Rattle.kapi_model.specs.declared.row.ResourceRow.{ResourceRow}
use Rattle.kapi_object.specs.declared.body_fields.GivenText.{GivenText}
use Rattle.kapi_policy.specs.Objects.{PolicyObjects}
use Rattle.kapi_model.specs.declared.identity.Identity.{Identity}
use Rattle.kapi_reply.specs.declared.refusal.Refused.{Refused}
use Rattle.kapi_reviews.specs.Kinds.{kind_of}
use Rattle.kapi_reviews.specs.Reviews.{reviewed}
use Rattle.kapi_reviews.specs.declared.kind.ReviewKind.{ReviewKind}
use Rattle.kapi_answer.specs.Route.{is_review_group}
use Rattle.kapi_answer.specs.Create.{Admitted, admitted, with_namespace_on, in_namespace, valid}
use Rattle.kapi_answer.specs.Response.{Response, told}

-- the kind of the reviews that a resource type takes, if any
unfoldable pub review_kind : ResourceRow → Option ReviewKind
review_kind row = if is_review_group row then kind_of row.kind else None

-- where reviews live in namespaces, the body gives no other namespace than the path's; a name in the body is ignored
unfoldable pub in_review_namespace : ResourceRow → List ℕ → GivenText → Result (Unit {0}) Refused
in_review_namespace row namespace given = if row.namespaced then in_namespace namespace [] given else Ok tt

-- the answer to the review that a body was read as: its namespace, its validity, what it asks; a review has no name
unfoldable pub to_answer : PolicyObjects → Identity → ReviewKind → ResourceRow → List ℕ → Admitted → Result Response Refused
to_answer objects identity kind row namespace body = do
  same ← in_review_namespace row namespace body.given.namespace
  tree ← valid [] body.object
  answer ← valid [] (reviewed objects identity kind (with_namespace_on row namespace tree))
  Ok (told status.Created answer)

-- the answer to a review, from its body on
unfoldable pub to_review : PolicyObjects → Identity → ReviewKind → ResourceRow → List ℕ → List ℕ → Result Response Refused
to_review objects identity kind row namespace bytes = do
  body ← admitted row bytes
  to_answer objects identity kind row namespace body
