-- What is a question: the `spec` of a review that the server takes (Kubernetes API, authorization.k8s.io/v1,
-- SubjectAccessReview).
use Rattle.std.specs.Prelude.{ℕ, ◌==◌, if◌then◌else◌, List, [], length, Option, None, Some, Result, Ok, Err, codes, option_and_then}
use Rattle.serde_json.specs.Data.{Data, no_members, object, put}
use Rattle.kapi_object.specs.Admission.{BodyFault, read_as}
use Rattle.kapi_model.specs.declared.row.ResourceRow.{ResourceRow}
use Rattle.kapi_object.specs.Tree.{json_object}
use Rattle.kapi_model.specs.declared.identity.Identity.{Identity}
use Rattle.kapi_reviews.specs.Faults.{review_faults}
use Rattle.kapi_reviews.specs.Reviews.{asked}
use Rattle.kapi_reviews.specs.declared.kind.ReviewKind.TheVariants.{SubjectAccessReview}
use Rattle.kapi_reviews.specs.declared.question.Question.{Question}

-- the review of a `spec`
abbrev pub review_of : Data → Data
review_of spec = object (put (codes "spec") spec no_members)

-- the identity that makes the review of a question: the review names a user and groups of its own
abbrev pub nobody : Identity
nobody = record { user = []; groups = [] }

-- what a review asks, if it has no fault
unfoldable pub asked_by : Data → Option Question
asked_by tree = if length (review_faults SubjectAccessReview tree) == 0 then Some (asked SubjectAccessReview nobody tree) else None

-- what a body that is read as a review asks, if it has no fault
abbrev pub asked_if : Result Data BodyFault → Option Question
asked_if (Ok tree) = asked_by tree
asked_if (Err fault) = None

-- the question that a line is; the resource type is that of access reviews
unfoldable pub question_of : ResourceRow → List ℕ → Option Question
question_of row line = option_and_then (λ spec. asked_if (read_as row (Some (review_of spec)))) (json_object line)
