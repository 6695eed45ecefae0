-- The texts before and after the first slash of a text.
use Rattle.std.proofs.Common.{◌≡◌, ℕ, suc, ◌+◌, List, [], ◌∷◌, length, take, Bool, true, false, not, cond, ◌||◌, ◌==◌, refl, arith}
use Rattle.std.proofs.Math.Seq.{take-length}
use Rattle.std.proofs.Math.ListN.{drop_of_length-le}
use Rattle.std.specs.List.{list_any, position_or_len}
use Rattle.std.specs.Prelude.{codes, if◌then◌else◌}
use Rattle.serde_json.specs.Data.{Data}
use Rattle.kapi_object.specs.Contents.{text_at}
use Rattle.kapi_model.specs.declared.identity.Identity.{Identity}
use Rattle.kapi_rules.specs.Points.{HasPlainResource}
use Rattle.kapi_reviews.specs.declared.kind.ReviewKind.{ReviewKind}
use Rattle.kapi_reviews.specs.declared.question.Question.{Question}
use Rattle.kapi_reviews.specs.Attributes.{after_slash, before_slash, has, has_slash}
use Rattle.kapi_reviews.specs.Questions.{at, question}

-- an element more that does not pass
one_more : (p : ℕ → Bool) (x : ℕ) (xs : List ℕ) (n : ℕ) → p x ≡ false → list_any p (take n xs) ≡ false → list_any p (take (1 + n) (x ∷ xs)) ≡ false
one_more p x xs n h rest = let e : 1 + n ≡ suc n = omega arith in rw e (rw h rest)

-- of the elements before the first one that passes, none passes
none_before : (p : ℕ → Bool) (xs : List ℕ) → list_any p (take (position_or_len p xs) xs) ≡ false
none_before p [] = refl
none_before p (x ∷ xs) =
    elim (p x) as (λ b. p x ≡ b → list_any p (take (cond (not b) (1 + position_or_len p xs) 0) (x ∷ xs)) ≡ false) [
      | true ↦ λ h. refl
      | false ↦ λ h. one_more p x xs (position_or_len p xs) h (none_before p xs)
    ] refl

pub no_slash_before : (s : List ℕ) → has_slash (before_slash s) ≡ false
no_slash_before s = none_before (λ b. b == 47) s

taken_whole : (xs : List ℕ) (n : ℕ) → n ≡ length xs → take n xs ≡ xs
taken_whole xs n h = rw h (take-length xs)

pub all_before : (s : List ℕ) → position_or_len (λ b. b == 47) s ≡ length s → before_slash s ≡ s
all_before s h = taken_whole s _ h

pub none_after : (s : List ℕ) → position_or_len (λ b. b == 47) s ≡ length s → after_slash s ≡ []
none_after s h = drop_of_length-le s (omega (arith, h))

one_is_plain : (b : Bool) (q r : Question) → HasPlainResource q.point → HasPlainResource r.point → HasPlainResource (if◌then◌else◌ {A = Question} b q r).point
one_is_plain true q r h k = h
one_is_plain false q r h k = k

-- what is asked about has no slash in its resource
pub plain_question : (kind : ReviewKind) (namespace : List ℕ) (caller : Identity) (spec : Data) → HasPlainResource (question kind namespace caller spec).point
unfolding question
plain_question kind namespace caller spec =
    one_is_plain (has (codes "resourceAttributes") spec) _ _
    (no_slash_before (text_at (codes "resource") (at (codes "resourceAttributes") spec))) tt

whole_position : (p : ℕ → Bool) (xs : List ℕ) → list_any p xs ≡ false → position_or_len p xs ≡ length xs
whole_position p [] = λ h. refl
whole_position p (x ∷ xs) =
    elim (p x) as (λ b. (b || list_any p xs) ≡ false → cond (not b) (1 + position_or_len p xs) 0 ≡ length (x ∷ xs)) [
      | true ↦ λ h. absurd (cc h)
      | false ↦ λ h. let e : position_or_len p xs ≡ length xs = whole_position p xs h in omega (arith, e)
    ]

-- the text before a slash has none to be split at
pub before_once : (s : List ℕ) → before_slash (before_slash s) ≡ before_slash s
before_once s = all_before (before_slash s) (whole_position (λ b. b == 47) (before_slash s) (no_slash_before s))

pub nothing_after : (s : List ℕ) → after_slash (before_slash s) ≡ []
nothing_after s = none_after (before_slash s) (whole_position (λ b. b == 47) (before_slash s) (no_slash_before s))
