-- The answers to reviews.
use Rattle.std.specs.Prelude.{ℕ, List, length, ◌==◌, if◌then◌else◌, Option, Some, None, Result, Ok, Err, codes}
use Rattle.serde_json.specs.Data.{Data, object, no_members}
use Rattle.kapi_model.specs.declared.fault.FieldFault.{FieldFault}
use Rattle.kapi_object.specs.Contents.{text_at, put_text}
use Rattle.kapi_policy.specs.Decided.{decided, held}
use Rattle.kapi_policy.specs.Objects.{PolicyObjects}
use Rattle.kapi_model.specs.declared.identity.Identity.{Identity}
use Rattle.kapi_reviews.specs.declared.kind.ReviewKind.{ReviewKind}
use Rattle.kapi_reviews.specs.declared.question.Question.{Question}
use Rattle.kapi_reviews.specs.declared.review_error.ReviewError.{ReviewError}
use Rattle.kapi_reviews.specs.declared.review_error.ReviewError.TheVariants as error
use Rattle.kapi_reviews.specs.Answers.{decision_tree, question_tree, review_tree, rules_tree}
use Rattle.kapi_reviews.specs.Faults.{namespace_of, review_faults}
use Rattle.kapi_reviews.specs.Kinds.{asks_rules}
use Rattle.kapi_reviews.specs.Questions.{at, question}

-- the faults that an error reports; running out of memory is none
abbrev pub told : ReviewError → Option (List FieldFault)
told (error.Invalid faults) = Some faults
told error.Memory = None

-- the decision of a question
abbrev pub decided_of : PolicyObjects → Question → Data
decided_of objects q = decision_tree (decided objects q.identity q.namespace q.point)

-- the answer to a review of access: the question, and its decision
unfoldable pub access_answer : PolicyObjects → ReviewKind → List ℕ → Question → Data
access_answer objects kind namespace q = review_tree kind namespace (question_tree kind q) (decided_of objects q)

-- the answer to a review of rules: the namespace, and the rules that the caller holds there
unfoldable pub rules_answer : PolicyObjects → Identity → ReviewKind → List ℕ → List ℕ → Data
rules_answer objects caller kind namespace asked =
    review_tree kind namespace (object (put_text (codes "namespace") asked no_members)) (rules_tree (held objects caller asked))

-- the question of a review of access
abbrev pub asked : ReviewKind → Identity → Data → Question
asked kind caller tree = question kind (namespace_of tree) caller (at (codes "spec") tree)

-- the answer to a review without faults in the namespace
unfoldable pub spec_answer : PolicyObjects → Identity → ReviewKind → List ℕ → Data → Data
spec_answer objects caller kind namespace spec =
    if asks_rules kind then rules_answer objects caller kind namespace (text_at (codes "namespace") spec)
    else access_answer objects kind namespace (question kind namespace caller spec)

-- what is read of a review that has no fault, or all its faults
abbrev pub unless_faulty : {X : Type 0} → ReviewKind → Data → X → Result X (List FieldFault)
unless_faulty kind tree read = if length (review_faults kind tree) == 0 then Ok read else Err (review_faults kind tree)

-- the answer to a review, or all its faults
unfoldable pub reviewed : PolicyObjects → Identity → ReviewKind → Data → Result Data (List FieldFault)
reviewed objects caller kind tree = unless_faulty kind tree (spec_answer objects caller kind (namespace_of tree) (at (codes "spec") tree))
