-- The kinds of reviews (Kubernetes API, authorization.k8s.io/v1).
use Rattle.std.specs.Prelude.{ℕ, List, Bool, true, false, if◌then◌else◌, Option, Some, None, codes}
use Rattle.std.specs.Str.{bytes_eq}
use Rattle.kapi_reviews.specs.declared.kind.ReviewKind.{ReviewKind}
use Rattle.kapi_reviews.specs.declared.kind.ReviewKind.TheVariants as kind

-- a kind as objects write it
abbrev pub kind_text : ReviewKind → List ℕ
kind_text kind.SelfSubjectAccessReview = codes "SelfSubjectAccessReview"
kind_text kind.SubjectAccessReview = codes "SubjectAccessReview"
kind_text kind.LocalSubjectAccessReview = codes "LocalSubjectAccessReview"
kind_text kind.SelfSubjectRulesReview = codes "SelfSubjectRulesReview"

-- the kind that a text names, if any
abbrev pub kind_of : List ℕ → Option ReviewKind
kind_of s =
    if bytes_eq s (codes "SelfSubjectAccessReview") then Some kind.SelfSubjectAccessReview
    else (if bytes_eq s (codes "SubjectAccessReview") then Some kind.SubjectAccessReview
    else (if bytes_eq s (codes "LocalSubjectAccessReview") then Some kind.LocalSubjectAccessReview
    else (if bytes_eq s (codes "SelfSubjectRulesReview") then Some kind.SelfSubjectRulesReview
    else None)))

-- a review that asks for rules; each other asks whether something is allowed
abbrev pub asks_rules : ReviewKind → Bool
asks_rules kind.SelfSubjectRulesReview = true
asks_rules _ = false

-- a review that is in a namespace
abbrev pub is_local : ReviewKind → Bool
is_local kind.LocalSubjectAccessReview = true
is_local _ = false

-- a review that names a user and groups; each other is about the caller
abbrev pub tells_subject : ReviewKind → Bool
tells_subject kind.SubjectAccessReview = true
tells_subject kind.LocalSubjectAccessReview = true
tells_subject _ = false
