-- Places of marks, and the marks at them.
use Rattle.std.proofs.Common.{◌≡◌, ◌≢◌, ℕ, ◌+◌, ◌*◌, ◌/◌, ◌%◌, ◌^◌, ◌<◌, ◌==◌, Bool, true, false, ◌||◌, List, [], ◌∷◌, ◌++◌, length, get_or, take, refl, sym, ap, ◌∙◌, arith, max}
use lib.Bits.{bit_and}
use Rattle.std.specs.Int.{bit_at, w64}
use Rattle.std.specs.Int.RustNames.{bit_or}
use Rattle.std.proofs.lemmas.Nat.Bits.{bit_at_or, bit_at_set_same, bit_at-lt, shr_and_one}
use Rattle.std.proofs.lemmas.List.Folds.{list_any_more}
use Rattle.std.proofs.lemmas.Slice.Eq.{bytes_eq-Decides}
use Rattle.std.specs.List.{list_any}
use Rattle.std.specs.Str.{bytes_eq}
use Rattle.kapi_index.specs.Marks.{AreMarked, last_byte, place_of}

pub last_appended : (b x : ℕ) (text : List ℕ) → last_byte b (text ++ x ∷ []) ≡ x
last_appended b x [] = refl
last_appended b x (c ∷ text) = last_appended c x text

pub last_joined : (b : ℕ) (first last : List ℕ) → last_byte b (first ++ 47 ∷ last) ≡ last_byte 47 last
last_joined b [] last = refl
last_joined b (c ∷ first) last = last_joined c first last

pub length_joined : (first last : List ℕ) → length (first ++ 47 ∷ last) ≡ length first + 1 + length last
length_joined [] last = omega arith
length_joined (c ∷ first) last = omega (arith, length_joined first last)

-- texts of other lengths differ
pub other_length : (word first last : List ℕ) → length word ≢ length first + 1 + length last → bytes_eq word (first ++ 47 ∷ last) ≡ false
other_length word first last differs = by_test (bytes_eq word (first ++ 47 ∷ last)) refl
  where
    by_test : (t : Bool) → bytes_eq word (first ++ 47 ∷ last) ≡ t → bytes_eq word (first ++ 47 ∷ last) ≡ false
    by_test true h = absurd (differs (ap length ((bytes_eq-Decides word (first ++ 47 ∷ last)).0 h) ∙ length_joined first last))
    by_test false h = h

-- ---- marks

at_most_one : (n : ℕ) → n < 2 → max 1 n ≡ 1
at_most_one n below = omega (arith, below)

-- a mark that is set is there
pub bit_set : (marks place : ℕ) → place < 64 → bit_at (bit_or marks (1 * 2 ^ place % 2 ^ 64)) place ≡ 1
bit_set marks place below = bit_at_set_same w64 marks place below

-- the marks that were there stay when one is set
pub bits_kept : (marks more i : ℕ) → bit_at marks i ≡ 1 → bit_at (bit_or marks more) i ≡ 1
bits_kept marks more i h = rw (bit_at_or marks more i, h) (at_most_one _ (bit_at-lt more i))

pub bit_test : (marks place : ℕ) → bit_and (marks / 2 ^ place) 1 ≡ bit_at marks place
bit_test marks place = shr_and_one marks place

-- ---- the marks of words

either : {P : Type 0} → (a b : Bool) → (a || b) ≡ true → (a ≡ true → P) → (b ≡ true → P) → P
either true b h f g = f refl
either false b h f g = g h

-- one word more, with its mark
pub marked_more : (marks more : ℕ) (words : List (List ℕ)) (i : ℕ) (word : List ℕ) → i < length words → word ≡ get_or words i word
    → AreMarked marks (take i words) → ((j : ℕ) → bit_at marks j ≡ 1 → bit_at more j ≡ 1) → bit_at more (place_of word) ≡ 1
    → AreMarked more (take (i + 1) words)
marked_more marks more words i word below is were kept set w h =
    let grown : list_any (λ x. bytes_eq x w) (take (i + 1) words) ≡ (list_any (λ x. bytes_eq x w) (take i words) || bytes_eq word w) =
    list_any_more (λ x. bytes_eq x w) words i word below ∙ ap (λ x. list_any (λ x. bytes_eq x w) (take i words) || bytes_eq x w) (sym is) in
    either (list_any (λ x. bytes_eq x w) (take i words)) (bytes_eq word w) (sym grown ∙ h)
    (λ old. kept (place_of w) (were w old))
    (λ new. ap (λ x. bit_at more (place_of x)) (sym ((bytes_eq-Decides word w).0 new)) ∙ set)

-- a word without a mark is none of the words
pub not_marked : (marks place : ℕ) (inside words : List (List ℕ)) (text w : List ℕ) (t : Bool) → inside ≡ words → text ≡ w
    → place ≡ place_of text → AreMarked marks inside → t ≡ (bit_at marks place == 1) → t ≡ false → t ≡ list_any (λ x. bytes_eq x w) words
not_marked marks place inside words text w t seen told placed marked is fails =
    fails ∙ sym (rw (← seen, ← told) (none (list_any (λ x. bytes_eq x text) inside) refl))
  where
    none : (b : Bool) → list_any (λ x. bytes_eq x text) inside ≡ b → list_any (λ x. bytes_eq x text) inside ≡ false
    none true h = absurd (let there = marked text h in let found : t ≡ true = is ∙ rw (placed, there) refl in let never : false ≡ true = sym fails ∙ found in cc)
    none false h = h
