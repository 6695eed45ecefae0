-- The first token of a selector's text.
use Rattle.std.proofs.Common.{◌≡◌, ℕ, suc, ◌+◌, ◌<◌, ◌==◌, ◌&&◌, List, [], ◌∷◌, length, take, drop, slice_index, Bool, true, false, not, cond, if◌then◌else◌, refl, ap, sym, ◌∙◌, arith, take_all}
use Rattle.std.specs.List.{position_or_len}
use Rattle.std.specs.Str.{IsCharBoundary, IsUtf8}
use Rattle.std.proofs.lemmas.Bool.Decides.{nat_tests}
use Rattle.std.proofs.lemmas.List.{drop_all}
use Rattle.std.proofs.lemmas.Str.{IsCharBoundary-after_ascii}
use Rattle.kapi_model.specs.declared.selector_token.Token.{Token}
use Rattle.kapi_model.specs.declared.selector_token.Token.TheVariants.{Word}
use Rattle.kapi_model.specs.SelectorText.{ends_word, is_pair, led_by, longer, mark, tokens}

-- the tokens where the first is a word that ends at that place
abbrev pub cut_at : List ℕ → ℕ → List Token
cut_at s n = Word (take n s) ∷ tokens (drop n s)

cut_one_more : (n b : ℕ) (s : List ℕ) → cut_at (b ∷ s) (1 + n) ≡ Word (b ∷ take n s) ∷ tokens (drop n s)
cut_one_more n b s = let e : 1 + n ≡ suc n = omega arith in rw e refl

pub cut_at_end : (s : List ℕ) → cut_at s (length s) ≡ Word s ∷ tokens []
cut_at_end s = rw (take_all (length s) s (omega arith), drop_all (length s) s (omega arith)) refl

pub word_has_bytes : (s : List ℕ) → 0 < length s → ends_word (slice_index s 0) ≡ false → 0 < position_or_len ends_word s
word_has_bytes [] h w = absurd (omega arith)
word_has_bytes (b ∷ bs) h w = rw w (omega arith)

-- a text that begins with no sign begins with a word, up to the first sign
pub first_word : (s : List ℕ) → 0 < length s → ends_word (slice_index s 0) ≡ false → tokens s ≡ cut_at s (position_or_len ends_word s)
unfolding tokens
first_word [] h w = absurd (omega arith)
first_word (b ∷ []) h w = rw w refl
first_word (b ∷ c ∷ rest) h w =
    rw w (elim (ends_word c) as (λ e. ends_word c ≡ e → (if e then Word (b ∷ []) ∷ tokens (c ∷ rest) else longer b (tokens (c ∷ rest))) ≡ cut_at (b ∷ c ∷ rest) (1 + cond (not e) (1 + position_or_len ends_word rest) 0)) [
      | true ↦ λ e. refl
      | false ↦ λ e.
          let n : ℕ = 1 + position_or_len ends_word rest in
          let end : position_or_len ends_word (c ∷ rest) ≡ n = rw e refl in
          ap (longer b) (first_word (c ∷ rest) (omega arith) e ∙ ap (cut_at (c ∷ rest)) end) ∙ sym (cut_one_more n b (c ∷ rest))
    ] refl)

-- how many bytes a sign has
abbrev pub mark_length : ℕ → Bool → ℕ
mark_length b before_equals = if is_pair b before_equals then 2 else 1

-- a text that begins with a sign or a space
pub first_mark : (s : List ℕ) → 0 < length s → ends_word (slice_index s 0) ≡ true
    → tokens s ≡ led_by (mark (slice_index s 0) (slice_index s 1 == 61)) (tokens (drop (mark_length (slice_index s 0) (slice_index s 1 == 61)) s))
unfolding tokens
first_mark [] h m = absurd (omega arith)
first_mark (b ∷ []) h m = rw m refl
first_mark (b ∷ c ∷ rest) h m =
    rw m (elim (is_pair b (c == 61)) as (λ e. led_by (mark b (c == 61)) (if e then tokens rest else tokens (c ∷ rest)) ≡ led_by (mark b (c == 61)) (tokens (drop (if e then 2 else 1) (b ∷ c ∷ rest)))) [
      | true ↦ refl
      | false ↦ refl
    ])

pub no_tokens : (s : List ℕ) → length s ≡ 0 → tokens s ≡ []
unfolding tokens
no_tokens [] h = refl
no_tokens (b ∷ bs) h = absurd (omega arith)

and_left : (a b : Bool) → (a && b) ≡ true → a ≡ true
and_left true b e = refl
and_left false b e = e

second_is_equals : (s : List ℕ) (q : Bool) → ((slice_index s 1 == 61) && q) ≡ true → slice_index s 1 ≡ 61
second_is_equals s q e = let same = and_left (slice_index s 1 == 61) q e in grind (arith, nat_tests)

has_second : (s : List ℕ) → slice_index s 1 ≡ 61 → 1 < length s
has_second [] e = absurd (omega (arith, e))
has_second (b ∷ []) e = absurd (omega (arith, e))
has_second (b ∷ c ∷ rest) e = omega arith

sign_is_ascii : (b : ℕ) → ends_word b ≡ true → b < 128
sign_is_ascii b e = grind (arith, nat_tests)

-- a text may be cut behind a sign
pub mark_cuts : (s : List ℕ) → IsUtf8 s → 0 < length s → ends_word (slice_index s 0) ≡ true → IsCharBoundary s (mark_length (slice_index s 0) (slice_index s 1 == 61))
mark_cuts s u h m =
    elim (is_pair (slice_index s 0) (slice_index s 1 == 61)) as (λ e. is_pair (slice_index s 0) (slice_index s 1 == 61) ≡ e → IsCharBoundary s (if e then 2 else 1)) [
      | true ↦ λ e.
          let equals = second_is_equals s _ e in
          IsCharBoundary-after_ascii s 1 u (has_second s equals) (omega (arith, equals))
      | false ↦ λ e. IsCharBoundary-after_ascii s 0 u h (sign_is_ascii (slice_index s 0) m)
    ] refl
