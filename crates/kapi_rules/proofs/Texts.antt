-- Texts: joined ones, and those with stars at their end.
use Rattle.std.proofs.Common.{◌≡◌, ℕ, ◌==◌, nat_eq, Bool, true, false, ◌&&◌, if◌then◌else◌, List, [], ◌∷◌, ◌++◌, length, drop, refl, arith}
use Rattle.std.proofs.lemmas.Bool.Decides.{nat_tests}
use Rattle.std.specs.List.{list_all, starts_with}
use Rattle.std.specs.Str.{bytes_eq}
use Rattle.kapi_rules.specs.Entries.{without_stars}

same_number : (x y : ℕ) → nat_eq x y ≡ nat_eq y x
same_number x y = grind (arith, nat_tests)

and_cases : (a b c d : Bool) → b ≡ (c && d) → (a && b) ≡ ((a && c) && d)
and_cases true b c d e = e
and_cases false b c d e = refl

-- a text is joined of two where it begins with the first and goes on with the last
pub bytes_eq_append : (text first last : List ℕ) → bytes_eq text (first ++ last) ≡ (starts_with nat_eq text first && bytes_eq (drop (length first) text) last)
bytes_eq_append text [] last = refl
bytes_eq_append [] (y ∷ first) last = refl
bytes_eq_append (x ∷ text) (y ∷ first) last =
    rw (same_number x y) (and_cases (nat_eq y x) _ _ _ (bytes_eq_append text first last))

-- all bytes are stars
abbrev pub all_stars : List ℕ → Bool
all_stars text = list_all (λ c. c == 42) text

all_stars_append : (text : List ℕ) (b : ℕ) → all_stars (text ++ b ∷ []) ≡ (all_stars text && (b == 42))
all_stars_append [] b = and_true (b == 42)
  where
    and_true : (t : Bool) → (t && true) ≡ t
    and_true true = refl
    and_true false = refl
all_stars_append (x ∷ text) b = and_cases (x == 42) _ _ _ (all_stars_append text b)

-- a star at the end is dropped
pub without_stars_append : (text : List ℕ) → without_stars (text ++ 42 ∷ []) ≡ without_stars text
without_stars_append [] = refl
without_stars_append (x ∷ text) =
    rw (all_stars_append text 42, without_stars_append text) (cases (x == 42) (all_stars text))
  where
    cases : (s t : Bool) → (if s && (t && true) then [] else x ∷ without_stars text) ≡ (if s && t then [] else x ∷ without_stars text)
    cases true true = refl
    cases true false = refl
    cases false t = refl

-- if another byte is the last, nothing is dropped
pub without_stars_kept : (front : List ℕ) (b : ℕ) → (b == 42) ≡ false → without_stars (front ++ b ∷ []) ≡ front ++ b ∷ []
without_stars_kept [] b other = rw other refl
without_stars_kept (x ∷ front) b other =
    rw (all_stars_append front b, without_stars_kept front b other, other) (cases (x == 42) (all_stars front))
  where
    cases : (s t : Bool) → (if s && (t && false) then [] else x ∷ (front ++ b ∷ [])) ≡ x ∷ (front ++ b ∷ [])
    cases true true = refl
    cases true false = refl
    cases false t = refl
