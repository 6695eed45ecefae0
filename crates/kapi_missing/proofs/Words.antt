-- Numbers as bits of words.
use Rattle.std.proofs.Common.{◌≡◌, ℕ, zero, suc, ◌*◌, ◌/◌, ◌%◌, ◌^◌, ◌+◌, ◌<◌, ◌≤◌, ◌==◌, nat_lt, Bool, true, false, ◌&&◌, ◌||◌, ◌⊎◌, inl, inr, List, [], ◌∷◌, ◌++◌, length, get_or, replicate, set, refl, ap, sym, ◌∙◌, arith, max, min}
use lib.Bits.{bit_and}
use Rattle.std.specs.Int.{bit_at, trailing_zeros, w64}
use Rattle.std.specs.Int.RustNames.{bit_or}
use Rattle.std.proofs.lemmas.Nat.Bits.{bit_at_and, bit_at_or, bit_at_set_other, bit_at_set_same, bit_at-lt, bit_at-trailing_zeros, bit_at-zero}
use Rattle.std.proofs.lemmas.Nat.{and_le_l}
use Rattle.std.proofs.lemmas.List.{get_or-set_other, get_or-set_same, get_or_default, get_or_past}
use Rattle.std.specs.List.{list_any}
use Rattle.std.proofs.lemmas.List.Folds.{list_any-append}
use Rattle.std.proofs.lemmas.Bool.{and_from, and_parts, cases_eq, eq-eqb, eqb-true, false_from_ne_true, ltb-false, ltb-true, or_parts, or_right}
use Rattle.std.proofs.lemmas.Bool.Decides.{nat_tests}
use Rattle.kapi_text.proofs.Booleans.{and_false, by_truth, or_false}
use Rattle.kapi_missing.specs.Private.Numbers.{has_bit, has_number}

-- a zero behind the last word adds no bit
pub zero_behind : (words : List ℕ) (n : ℕ) → has_bit (words ++ 0 ∷ []) n ≡ has_bit words n
zero_behind words n = ap (λ w. bit_at w (n % 64) == 1) (at_place words (n / 64))
  where
    at_place : (xs : List ℕ) (i : ℕ) → get_or (xs ++ 0 ∷ []) i 0 ≡ get_or xs i 0
    at_place [] zero = refl
    at_place [] (suc i) = refl
    at_place (x ∷ xs) zero = refl
    at_place (x ∷ xs) (suc i) = at_place xs i

pub either_bit : (a b i : ℕ) → (bit_at (bit_or a b) i == 1) ≡ ((bit_at a i == 1) || (bit_at b i == 1))
either_bit a b i = ap (λ m. m == 1) (bit_at_or a b i) ∙ by_bits (bit_at a i) (bit_at b i) (bit_at-lt a i) (bit_at-lt b i)
  where
    by_bits : (m k : ℕ) → m < 2 → k < 2 → (max m k == 1) ≡ ((m == 1) || (k == 1))
    by_bits zero zero one two = refl
    by_bits zero (suc zero) one two = refl
    by_bits (suc zero) zero one two = refl
    by_bits (suc zero) (suc zero) one two = refl
    by_bits (suc (suc m)) k one two = absurd (omega (arith, one))
    by_bits zero (suc (suc k)) one two = absurd (omega (arith, two))
    by_bits (suc zero) (suc (suc k)) one two = absurd (omega (arith, two))

pub both_bits : (a b i : ℕ) → (bit_at (bit_and a b) i == 1) ≡ ((bit_at a i == 1) && (bit_at b i == 1))
both_bits a b i = ap (λ m. m == 1) (bit_at_and a b i) ∙ by_bits (bit_at a i) (bit_at b i) (bit_at-lt a i) (bit_at-lt b i)
  where
    by_bits : (m k : ℕ) → m < 2 → k < 2 → (min m k == 1) ≡ ((m == 1) && (k == 1))
    by_bits zero zero one two = refl
    by_bits zero (suc zero) one two = refl
    by_bits (suc zero) zero one two = refl
    by_bits (suc zero) (suc zero) one two = refl
    by_bits (suc (suc m)) k one two = absurd (omega (arith, one))
    by_bits zero (suc (suc k)) one two = absurd (omega (arith, two))
    by_bits (suc zero) (suc (suc k)) one two = absurd (omega (arith, two))

-- some bits are set in a word
pub bits_set : (words : List ℕ) (place word bits : ℕ) → place < length words → word ≡ get_or words place word
    → (n : ℕ) → has_bit (set words place (bit_or word bits)) n ≡ (has_bit words n || ((n / 64 == place) && (bit_at bits (n % 64) == 1)))
bits_set words place word bits within is n = by_place (cases_eq (n / 64) place)
  where
    there : word ≡ get_or words place 0
    there = is ∙ sym (get_or_default words place 0 word within)

    by_place : (n / 64 ≡ place) ⊎ (n / 64 ≡ place → ⊥)
        → has_bit (set words place (bit_or word bits)) n ≡ (has_bit words n || ((n / 64 == place) && (bit_at bits (n % 64) == 1)))
    by_place (inl here) =
        rw (eq-eqb (n / 64) place here)
        (ap (λ p. bit_at (get_or (set words place (bit_or word bits)) p 0) (n % 64) == 1) here
        ∙ ap (λ w. bit_at w (n % 64) == 1) (get_or-set_same words place (bit_or word bits) 0 within) ∙ either_bit word bits (n % 64)
        ∙ ap (λ w. (bit_at w (n % 64) == 1) || (bit_at bits (n % 64) == 1)) (there ∙ ap (λ p. get_or words p 0) (sym here)))
    by_place (inr other) =
        rw (false_from_ne_true (n / 64 == place) (λ h. other (eqb-true (n / 64) place h)))
        (ap (λ w. bit_at w (n % 64) == 1) (get_or-set_other words place (n / 64) (bit_or word bits) 0 other) ∙ sym (or_false (has_bit words n)))

-- the word with one bit
pub one_bit : (number n : ℕ) → ((n / 64 == number / 64) && (bit_at (1 * 2 ^ (number % 64) % 2 ^ 64) (n % 64) == 1)) ≡ (number == n)
one_bit number n = by_truth _ _ there back
  where
    mask : ℕ
    mask = 1 * 2 ^ (number % 64) % 2 ^ 64

    below : number % 64 < 64
    below = omega arith

    alone : (i : ℕ) → bit_at (bit_or 0 mask) i ≡ bit_at mask i
    alone i = bit_at_or 0 mask i ∙ rw (bit_at-zero i) (largest (bit_at mask i))
      where
        largest : (m : ℕ) → max 0 m ≡ m
        largest m = omega arith

    there : ((n / 64 == number / 64) && (bit_at mask (n % 64) == 1)) ≡ true → (number == n) ≡ true
    there h = by_place (cases_eq (n % 64) (number % 64))
      where
        parts : ((n / 64 == number / 64) ≡ true) × ((bit_at mask (n % 64) == 1) ≡ true)
        parts = and_parts (n / 64 == number / 64) (bit_at mask (n % 64) == 1) h

        by_place : (n % 64 ≡ number % 64) ⊎ (n % 64 ≡ number % 64 → ⊥) → (number == n) ≡ true
        by_place (inl low) = let high : n / 64 ≡ number / 64 = eqb-true (n / 64) (number / 64) parts.0 in eq-eqb number n (omega (arith, low, high))
        by_place (inr other) = absurd (
            let none : bit_at mask (n % 64) ≡ 0 = sym (alone (n % 64)) ∙ bit_at_set_other w64 0 (number % 64) below (n % 64) other ∙ bit_at-zero (n % 64) in
            let one : bit_at mask (n % 64) ≡ 1 = eqb-true (bit_at mask (n % 64)) 1 parts.1 in
            omega (arith, none, one))

    back : (number == n) ≡ true → ((n / 64 == number / 64) && (bit_at mask (n % 64) == 1)) ≡ true
    back h = rw (sym (eqb-true number n h)) (rw (eq-eqb (number / 64) (number / 64) refl) (eq-eqb (bit_at mask (number % 64)) 1 (sym (alone (number % 64)) ∙ bit_at_set_same w64 0 (number % 64) below)))

-- behind the last word no bit is set
pub no_bit_behind : (words : List ℕ) (n : ℕ) → length words ≤ n / 64 → has_bit words n ≡ false
no_bit_behind words n past = rw (get_or_past words (n / 64) 0 past, bit_at-zero (n % 64)) refl

-- the bits that both words have at a place
common_bits : (words others : List ℕ) (place n : ℕ)
    → ((n / 64 == place) && (bit_at (bit_and (get_or words place 0) (get_or others place 0)) (n % 64) == 1)) ≡ ((n / 64 == place) && (has_bit words n && has_bit others n))
common_bits words others place n = by_place (cases_eq (n / 64) place)
  where
    by_place : (n / 64 ≡ place) ⊎ (n / 64 ≡ place → ⊥)
        → ((n / 64 == place) && (bit_at (bit_and (get_or words place 0) (get_or others place 0)) (n % 64) == 1)) ≡ ((n / 64 == place) && (has_bit words n && has_bit others n))
    by_place (inl here) =
        rw (eq-eqb (n / 64) place here)
        (both_bits (get_or words place 0) (get_or others place 0) (n % 64)
        ∙ ap (λ p. (bit_at (get_or words p 0) (n % 64) == 1) && (bit_at (get_or others p 0) (n % 64) == 1)) (sym here))
    by_place (inr other) = rw (false_from_ne_true (n / 64 == place) (λ h. other (eqb-true (n / 64) place h))) refl

next_place : (n place : ℕ) → nat_lt n (place + 1) ≡ (nat_lt n place || (n == place))
next_place n place = grind (arith, nat_tests)

-- one place more
pub marked_more : (words others : List ℕ) (place other n : ℕ) (before old now : Bool) → other ≡ get_or others place 0
    → now ≡ (old || ((n / 64 == place) && (bit_at (bit_and (get_or words place 0) other) (n % 64) == 1)))
    → old ≡ (before || (nat_lt (n / 64) place && (has_bit words n && has_bit others n)))
    → now ≡ (before || (nat_lt (n / 64) (place + 1) && (has_bit words n && has_bit others n)))
marked_more words others place other n before old now is added were =
    added ∙ rw (is, common_bits words others place n, were, next_place (n / 64) place) (joined before (nat_lt (n / 64) place) (n / 64 == place) (has_bit words n && has_bit others n))
  where
    joined : (a l e b : Bool) → ((a || (l && b)) || (e && b)) ≡ (a || ((l || e) && b))
    joined true l e b = refl
    joined false true true true = refl
    joined false true true false = refl
    joined false true false true = refl
    joined false true false false = refl
    joined false false e b = refl

-- behind the last place there is nothing
pub marked_all : (words others : List ℕ) (place n : ℕ) (before now : Bool) → length words ≤ place
    → now ≡ (before || (nat_lt (n / 64) place && (has_bit words n && has_bit others n))) → now ≡ (before || (has_bit words n && has_bit others n))
marked_all words others place n before now past is = is ∙ by_side (nat_lt (n / 64) place) refl
  where
    by_side : (t : Bool) → nat_lt (n / 64) place ≡ t → (before || (t && (has_bit words n && has_bit others n))) ≡ (before || (has_bit words n && has_bit others n))
    by_side true here = refl
    by_side false behind = let far : length words ≤ n / 64 = (let h = ltb-false (n / 64) place behind in omega (arith, h, past)) in rw (no_bit_behind words n far) refl

-- words that share a bit share a number
pub shared : (words others : List ℕ) (place other : ℕ) → other ≡ get_or others place 0 → get_or words place 0 < 2 ^ 64
    → (bit_and (get_or words place 0) other ≡ 0 → ⊥) → (n : ℕ) × ((has_bit words n && has_bit others n) ≡ true)
shared words others place other is fits some = (n, let e = common_bits words others place n in let f = rw at_place at e in sym f ∙ set_there)
  where
    both : ℕ
    both = bit_and (get_or words place 0) (get_or others place 0)

    positive : 0 < both
    positive = above both (λ none. some (rw is none))
      where
        above : (m : ℕ) → (m ≡ 0 → ⊥) → 0 < m
        above zero not_zero = absurd (not_zero refl)
        above (suc m) not_zero = omega arith

    bit : ℕ
    bit = trailing_zeros w64 both

    is_bit : (bit < 64) × (bit_at both bit ≡ 1)
    is_bit =
        let small : both < 2 ^ 64 = (let le = and_le_l (get_or words place 0) (get_or others place 0) in omega (arith, le, fits)) in
        let found = bit_at-trailing_zeros w64 both positive small in (found.0, found.1)

    n : ℕ
    n = place * 64 + bit

    at_place : (n / 64 == place) ≡ true
    at_place = let low = is_bit.0 in eq-eqb (n / 64) place (omega (arith, low))

    set_there : (true && (bit_at both (n % 64) == 1)) ≡ true
    set_there =
        let low = is_bit.0 in
        let e : n % 64 ≡ bit = omega (arith, low) in rw e (eq-eqb (bit_at both bit) 1 is_bit.1)

-- words that share no bit share no number
pub none_more : (words others : List ℕ) (place other : ℕ) → other ≡ get_or others place 0 → bit_and (get_or words place 0) other ≡ 0
    → ((n : ℕ) → n / 64 < place → (has_bit words n && has_bit others n) ≡ false) → (n : ℕ) → n / 64 < place + 1 → (has_bit words n && has_bit others n) ≡ false
none_more words others place other is none were n below = by_place (cases_eq (n / 64) place)
  where
    by_place : (n / 64 ≡ place) ⊎ (n / 64 ≡ place → ⊥) → (has_bit words n && has_bit others n) ≡ false
    by_place (inr apart) = were n (omega (arith, below, apart))
    by_place (inl here) =
        let e = common_bits words others place n in
        let empty : bit_and (get_or words place 0) (get_or others place 0) ≡ 0 = rw (sym is) none in
        let f = rw (eq-eqb (n / 64) place here) at e in
        sym f ∙ rw (empty, bit_at-zero (n % 64)) refl

-- one of the numbers of a list
pub listed_number : (words list : List ℕ) → list_any (λ n. has_bit words n) list ≡ true → (n : ℕ) × ((has_bit words n && has_number list n) ≡ true)
listed_number words [] some = absurd cc
listed_number words (m ∷ list) some = by_case (has_bit words m) refl some (λ rest. listed_number words list rest)
  where
    by_case : (t : Bool) → has_bit words m ≡ t → (t || list_any (λ n. has_bit words n) list) ≡ true
        → (list_any (λ n. has_bit words n) list ≡ true → (n : ℕ) × ((has_bit words n && has_number list n) ≡ true))
        → (n : ℕ) × ((has_bit words n && has_number (m ∷ list) n) ≡ true)
    by_case true is h rest = (m, rw (is, eq-eqb m m refl) refl)
    by_case false is h rest = let found = rest h in (found.0, and_from (has_bit words found.0) (has_number (m ∷ list) found.0) (and_parts (has_bit words found.0) (has_number list found.0) found.1).0 (or_right (m == found.0) (has_number list found.0) (and_parts (has_bit words found.0) (has_number list found.0) found.1).1))

pub no_listed_number : (words list : List ℕ) → list_any (λ n. has_bit words n) list ≡ false → (n : ℕ) → (has_bit words n && has_number list n) ≡ false
no_listed_number words [] none n = and_false (has_bit words n)
no_listed_number words (m ∷ list) none n =
    let parts = or_parts (has_bit words m) (list_any (λ n. has_bit words n) list) none in
    by_case (m == n) refl parts.0 (no_listed_number words list parts.1 n)
  where
    by_case : (t : Bool) → (m == n) ≡ t → has_bit words m ≡ false → (has_bit words n && has_number list n) ≡ false → (has_bit words n && ((m == n) || has_number list n)) ≡ false
    by_case true is absent rest = rw (sym (eqb-true m n is)) (rw absent refl)
    by_case false is absent rest = rw is rest

abbrev pub zeros : ℕ → List ℕ
zeros count = replicate count 0

pub no_word : (words : List ℕ) (count n : ℕ) → words ≡ zeros count → has_bit words n ≡ false
no_word words count n is = rw (is, all_zero count (n / 64), bit_at-zero (n % 64)) refl
  where
    all_zero : (m i : ℕ) → get_or (zeros m) i 0 ≡ 0
    all_zero zero i = refl
    all_zero (suc m) zero = refl
    all_zero (suc m) (suc i) = all_zero m i

-- a set bit lies in a word
pub is_within : (words : List ℕ) (n : ℕ) → has_bit words n ≡ true → n / 64 < length words
is_within words n is = by_side (nat_lt (n / 64) (length words)) refl
  where
    by_side : (t : Bool) → nat_lt (n / 64) (length words) ≡ t → n / 64 < length words
    by_side true here = ltb-true (n / 64) (length words) here
    by_side false behind = absurd (
        let past : length words ≤ n / 64 = ltb-false (n / 64) (length words) behind in
        let never = sym is ∙ no_bit_behind words n past in cc)

-- a number of the words more, among those of a list
pub listed_more : (words list : List ℕ) (number n : ℕ) (before old now : Bool) → now ≡ (old || (has_bit words number && (number == n)))
    → old ≡ (before || (has_bit words n && has_number list n)) → now ≡ (before || (has_bit words n && has_number (list ++ number ∷ []) n))
listed_more words list number n before old now added were =
    added ∙ rw (were, list_any-append (λ m. m == n) list (number ∷ [])) (by_number (number == n) refl)
  where
    joined : (a w l : Bool) → ((a || (w && l)) || (w && true)) ≡ (a || (w && (l || true)))
    joined true w l = refl
    joined false false l = refl
    joined false true true = refl
    joined false true false = refl

    apart : (a w l x : Bool) → ((a || (w && l)) || (x && false)) ≡ (a || (w && (l || false)))
    apart true w l x = refl
    apart false true true x = refl
    apart false true false true = refl
    apart false true false false = refl
    apart false false l true = refl
    apart false false l false = refl

    by_number : (t : Bool) → (number == n) ≡ t → ((before || (has_bit words n && has_number list n)) || (has_bit words number && (number == n))) ≡ (before || (has_bit words n && (has_number list n || ((number == n) || false))))
    by_number true is = rw (is, eqb-true number n is) (joined before (has_bit words n) (has_number list n))
    by_number false is = rw is (apart before (has_bit words n) (has_number list n) (has_bit words number))
