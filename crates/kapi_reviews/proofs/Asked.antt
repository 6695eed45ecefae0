-- The answer to a review of access asks what the review asks.
use Rattle.std.proofs.Common.{◌≡◌, ◌∙◌, ℕ, List, [], Bool, true, false, if◌then◌else◌, Some, None, Ok, codes, refl, ap, sym, length, ◌==◌}
use Rattle.std.specs.Option.{option_and_then, unwrap_or}
use Rattle.serde_json.proofs.Views.{get_member-put}
use Rattle.serde_json.specs.Data.{Data, null, object, string, Members, no_members, put}
use Rattle.serde_json.specs.Find.{get, get_member}
use Rattle.kapi_object.proofs.Puts.{put_other}
use Rattle.kapi_object.specs.Contents.{text_at, text_if}
use Rattle.kapi_object.specs.Tree.{unless_null}
use Rattle.kapi_policy.specs.Objects.{PolicyObjects}
use Rattle.kapi_model.specs.declared.identity.Identity.{Identity}
use Rattle.kapi_rules.specs.declared.point.ResourcePoint.{ResourcePoint}
use Rattle.kapi_rules.specs.declared.point.UrlPoint.{UrlPoint}
use Rattle.kapi_rules.specs.declared.point.Point.TheVariants as point
use Rattle.kapi_reviews.proofs.Again.{here, identity_again, namespace_told_again, resource_point_again, subject_absent, url_point_again}
use Rattle.kapi_reviews.proofs.Said.{given}
use Rattle.kapi_reviews.proofs.Slashes.{before_once, nothing_after}
use Rattle.kapi_reviews.specs.declared.kind.ReviewKind.{ReviewKind}
use Rattle.kapi_reviews.specs.declared.question.Question.{Question}
use Rattle.kapi_reviews.specs.Answers.{attributes_members, metadata_members, question_tree, review_tree, subject_members}
use Rattle.kapi_reviews.specs.Attributes.{after_slash, before_slash, has}
use Rattle.kapi_reviews.specs.Faults.{namespace_of, review_faults}
use Rattle.kapi_reviews.specs.Kinds.{asks_rules, is_local, kind_text, tells_subject}
use Rattle.kapi_reviews.specs.Questions.{asked_identity, asked_namespace, at, question}
use Rattle.kapi_reviews.specs.Reviews.{access_answer, asked, decided_of, reviewed, spec_answer}

-- ---- questions

abbrev about_resource : Identity → List ℕ → ResourcePoint → Question
about_resource i namespace p = record { identity = i; namespace = namespace; point = point.Resource p }

abbrev about_url : Identity → UrlPoint → Question
about_url i p = record { identity = i; namespace = []; point = point.Url p }

-- the namespace that is written is asked about again
namespace_again : (kind : ReviewKind) (ns namespace : List ℕ) (p : ResourcePoint) → (is_local kind ≡ true → namespace ≡ ns)
    → asked_namespace kind ns (object (attributes_members namespace (point.Resource p))) ≡ namespace
namespace_again kind ns namespace p =
    elim (is_local kind) as (λ b. (b ≡ true → namespace ≡ ns) → (if b then ns else text_at (codes "namespace") (object (attributes_members namespace (point.Resource p)))) ≡ namespace) [
      | true ↦ λ e. sym (e refl)
      | false ↦ λ e. namespace_told_again namespace p
    ]

resource_again : (kind : ReviewKind) (ns : List ℕ) (caller i : Identity) (namespace : List ℕ) (p : ResourcePoint)
    → (tells_subject kind ≡ false → i ≡ caller) → (is_local kind ≡ true → namespace ≡ ns) → before_slash p.resource ≡ p.resource → after_slash p.resource ≡ []
    → question kind ns caller (question_tree kind (about_resource i namespace p)) ≡ about_resource i namespace p
unfolding question question_tree
resource_again kind ns caller i namespace p own local h k =
    let attributes : Data = object (attributes_members namespace (point.Resource p)) in
    let found : get_member (codes "resourceAttributes") (put (codes "resourceAttributes") attributes (subject_members kind i)) ≡ Some attributes = get_member-put (codes "resourceAttributes") attributes (subject_members kind i) in
    rw (found, identity_again kind caller (codes "resourceAttributes") attributes i refl refl own, namespace_again kind ns namespace p local, resource_point_again namespace p h k) refl

url_again : (kind : ReviewKind) (ns : List ℕ) (caller i : Identity) (p : UrlPoint) → (tells_subject kind ≡ false → i ≡ caller)
    → question kind ns caller (question_tree kind (about_url i p)) ≡ about_url i p
unfolding question question_tree
url_again kind ns caller i p own =
    let attributes : Data = object (attributes_members [] (point.Url p)) in
    let none : get_member (codes "resourceAttributes") (put (codes "nonResourceAttributes") attributes (subject_members kind i)) ≡ None =
    put_other (codes "resourceAttributes") (codes "nonResourceAttributes") attributes (subject_members kind i) refl ∙ subject_absent kind i (codes "resourceAttributes") refl refl in
    let found : get_member (codes "nonResourceAttributes") (put (codes "nonResourceAttributes") attributes (subject_members kind i)) ≡ Some attributes = get_member-put (codes "nonResourceAttributes") attributes (subject_members kind i) in
    rw (none, found, identity_again kind caller (codes "nonResourceAttributes") attributes i refl refl own, url_point_again [] p) refl

either_again : (P : Question → Type 0) (b : Bool) (q r : Question) → P q → P r → P (if◌then◌else◌ {A = Question} b q r)
either_again P true q r h k = h
either_again P false q r h k = k

own_identity : (kind : ReviewKind) (caller : Identity) (spec : Data) → tells_subject kind ≡ false → asked_identity kind caller spec ≡ caller
own_identity kind caller spec h = rw h refl

local_namespace : (kind : ReviewKind) (ns : List ℕ) (d : Data) → is_local kind ≡ true → asked_namespace kind ns d ≡ ns
local_namespace kind ns d h = rw h refl

question_again : (kind : ReviewKind) (ns : List ℕ) (caller : Identity) (spec : Data)
    → question kind ns caller (question_tree kind (question kind ns caller spec)) ≡ question kind ns caller spec
unfolding question
question_again kind ns caller spec =
    let attributes : Data = at (codes "resourceAttributes") spec in
    either_again (λ q. question kind ns caller (question_tree kind q) ≡ q) (has (codes "resourceAttributes") spec) _ _
    (resource_again kind ns caller (asked_identity kind caller spec) (asked_namespace kind ns attributes) _ (own_identity kind caller spec) (local_namespace kind ns attributes)
    (before_once (text_at (codes "resource") attributes)) (nothing_after (text_at (codes "resource") attributes)))
    (url_again kind ns caller (asked_identity kind caller spec) _ (own_identity kind caller spec))

-- ---- reviews

abbrev top : ReviewKind → Members
top kind = put (codes "kind") (string (kind_text kind)) (put (codes "apiVersion") (string (codes "authorization.k8s.io/v1")) no_members)

abbrev with_metadata : ReviewKind → List ℕ → Members
with_metadata kind ns = put (codes "metadata") (object (metadata_members kind ns)) (top kind)

-- the value at `spec` of a review
spec_there : (kind : ReviewKind) (ns : List ℕ) (ms : Members) (status : Data) → at (codes "spec") (review_tree kind ns (object ms) status) ≡ object ms
unfolding review_tree
spec_there kind ns ms status =
    ap (λ o. unwrap_or (option_and_then unless_null o) null)
    (put_other (codes "spec") (codes "status") status (put (codes "spec") (object ms) (with_metadata kind ns)) refl
    ∙ get_member-put (codes "spec") (object ms) (with_metadata kind ns))

question_there : (kind : ReviewKind) (ns : List ℕ) (q : Question) (status : Data) → at (codes "spec") (review_tree kind ns (question_tree kind q) status) ≡ question_tree kind q
unfolding question_tree
question_there kind ns q status = spec_there kind ns _ status

-- the namespace that a local review is in
namespace_there : (kind : ReviewKind) (ns : List ℕ) (spec status : Data) → is_local kind ≡ true → namespace_of (review_tree kind ns spec status) ≡ ns
unfolding review_tree
namespace_there kind ns spec status h =
    ap (λ o. text_if (option_and_then unless_null (option_and_then (get (codes "namespace")) o)))
    (put_other (codes "metadata") (codes "status") status (put (codes "spec") spec (with_metadata kind ns)) refl
    ∙ put_other (codes "metadata") (codes "spec") spec (with_metadata kind ns) refl
    ∙ get_member-put (codes "metadata") (object (metadata_members kind ns)) (top kind))
    ∙ local_metadata kind ns h where
      local_metadata : (kind : ReviewKind) (ns : List ℕ) → is_local kind ≡ true → text_at (codes "namespace") (object (metadata_members kind ns)) ≡ ns
      local_metadata kind ns h = rw h (here (codes "namespace") ns no_members refl)

-- the namespace counts in local reviews alone
asked_same : (kind : ReviewKind) (m n : List ℕ) (d : Data) → (is_local kind ≡ true → m ≡ n) → asked_namespace kind m d ≡ asked_namespace kind n d
asked_same kind m n d =
    elim (is_local kind) as (λ b. (b ≡ true → m ≡ n) → (if b then m else text_at (codes "namespace") d) ≡ (if b then n else text_at (codes "namespace") d)) [
      | true ↦ λ e. e refl
      | false ↦ λ e. refl
    ]

question_same : (kind : ReviewKind) (m n : List ℕ) (caller : Identity) (spec : Data) → (is_local kind ≡ true → m ≡ n) → question kind m caller spec ≡ question kind n caller spec
unfolding question
question_same kind m n caller spec h = rw (asked_same kind m n (at (codes "resourceAttributes") spec) h) refl

access_asks : (kind : ReviewKind) (ns : List ℕ) (caller : Identity) (q : Question) (status : Data)
    → asked kind caller (review_tree kind ns (question_tree kind q) status) ≡ question kind ns caller (question_tree kind q)
access_asks kind ns caller q status =
    question_same kind (namespace_of (review_tree kind ns (question_tree kind q) status)) ns caller (at (codes "spec") (review_tree kind ns (question_tree kind q) status))
    (namespace_there kind ns (question_tree kind q) status)
    ∙ ap (question kind ns caller) (question_there kind ns q status)

answer_asks : (objects : PolicyObjects) (caller : Identity) (kind : ReviewKind) (ns : List ℕ) (spec : Data) → asks_rules kind ≡ false
    → asked kind caller (spec_answer objects caller kind ns spec) ≡ question kind ns caller spec
unfolding spec_answer access_answer
answer_asks objects caller kind ns spec h =
    rw h (access_asks kind ns caller (question kind ns caller spec) (decided_of objects (question kind ns caller spec)) ∙ question_again kind ns caller spec)

pub asks_the_same : (objects : PolicyObjects) (caller : Identity) (kind : ReviewKind) (tree d : Data) → asks_rules kind ≡ false → reviewed objects caller kind tree ≡ Ok d
    → asked kind caller d ≡ asked kind caller tree
unfolding reviewed
asks_the_same objects caller kind tree d h k =
    ap (asked kind caller) (sym (given (length (review_faults kind tree) == 0) _ d (review_faults kind tree) k))
    ∙ answer_asks objects caller kind (namespace_of tree) (at (codes "spec") tree) h
