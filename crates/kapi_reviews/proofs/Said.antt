-- What an answer says of being allowed is what is held.
use Rattle.std.proofs.Common.{◌≡◌, ◌∙◌, ℕ, length, ◌==◌, List, Bool, true, false, if◌then◌else◌, Some, Ok, Err, codes, option_map, refl, ap, sym}
use Rattle.std.specs.Option.{option_and_then}
use Rattle.serde_json.proofs.Views.{get_member-put}
use Rattle.serde_json.specs.Data.{Data, boolean, string, object, Members, no_members, put}
use Rattle.serde_json.specs.Find.{get}
use Rattle.kapi_model.specs.declared.fault.FieldFault.{FieldFault}
use Rattle.kapi_object.proofs.Puts.{put_if_other}
use Rattle.kapi_policy.proofs.Decisions.{allowed_where_held}
use Rattle.kapi_policy.specs.Decided.{Decided, decided}
use Rattle.kapi_policy.specs.Laws.{is_allowed}
use Rattle.kapi_policy.specs.Objects.{PolicyObjects}
use Rattle.kapi_model.specs.declared.identity.Identity.{Identity}
use Rattle.kapi_reviews.specs.declared.kind.ReviewKind.{ReviewKind}
use Rattle.kapi_reviews.specs.declared.question.Question.{Question}
use Rattle.kapi_reviews.specs.Answers.{decision_tree, metadata_members, question_tree, reason_of, review_tree}
use Rattle.kapi_reviews.specs.Faults.{namespace_of, review_faults}
use Rattle.kapi_reviews.specs.Kinds.{asks_rules, kind_text}
use Rattle.kapi_reviews.specs.Laws.{may, said}
use Rattle.kapi_reviews.specs.Questions.{at, question}
use Rattle.kapi_reviews.specs.Reviews.{access_answer, asked, decided_of, reviewed, spec_answer}

-- the members below the status
abbrev below_status : ReviewKind → List ℕ → Data → Members
below_status kind namespace spec =
    put (codes "spec") spec
    (put (codes "metadata") (object (metadata_members kind namespace))
    (put (codes "kind") (string (kind_text kind))
    (put (codes "apiVersion") (string (codes "authorization.k8s.io/v1")) no_members)))

status_of : (kind : ReviewKind) (namespace : List ℕ) (spec status : Data) → get (codes "status") (review_tree kind namespace spec status) ≡ Some status
unfolding review_tree
status_of kind namespace spec status = get_member-put (codes "status") status (below_status kind namespace spec)

allowed_of : (d : Decided) → get (codes "allowed") (decision_tree d) ≡ Some (boolean (is_allowed d))
unfolding decision_tree
allowed_of d = put_if_other (codes "allowed") (codes "reason") (option_map string (reason_of d)) (put (codes "allowed") (boolean (is_allowed d)) no_members) refl

access_said : (objects : PolicyObjects) (kind : ReviewKind) (namespace : List ℕ) (q : Question) → said (access_answer objects kind namespace q) ≡ Some (boolean (may objects q))
unfolding access_answer
access_said objects kind namespace q =
    ap (option_and_then (get (codes "allowed"))) (status_of kind namespace (question_tree kind q) (decided_of objects q))
    ∙ allowed_of (decided objects q.identity q.namespace q.point)
    ∙ ap (λ b. Some (boolean b)) (allowed_where_held objects q.identity q.namespace q.point)

pub given : (b : Bool) (x d : Data) (faults : List FieldFault) → (if b then Ok x else Err faults) ≡ Ok d → x ≡ d
given true x d faults h = cc
given false x d faults h = absurd (cc h)

answer_said : (objects : PolicyObjects) (caller : Identity) (kind : ReviewKind) (namespace : List ℕ) (spec : Data) (q : Question) → asks_rules kind ≡ false → q ≡ question kind namespace caller spec → said (spec_answer objects caller kind namespace spec) ≡ Some (boolean (may objects q))
unfolding spec_answer
answer_said objects caller kind namespace spec q h e = rw (h, e) (access_said objects kind namespace (question kind namespace caller spec))

pub said_as_held : (objects : PolicyObjects) (caller : Identity) (kind : ReviewKind) (tree d : Data) → asks_rules kind ≡ false → reviewed objects caller kind tree ≡ Ok d
    → said d ≡ Some (boolean (may objects (asked kind caller tree)))
unfolding reviewed
said_as_held objects caller kind tree d h k =
    ap said (sym (given (length (review_faults kind tree) == 0) _ d (review_faults kind tree) k))
    ∙ answer_said objects caller kind (namespace_of tree) (at (codes "spec") tree) (asked kind caller tree) h refl
