-- Characters that are shown.
use Rattle.std.proofs.Common.{◌≡◌, ℕ, ◌+◌, ◌/◌, ◌%◌, ◌≤◌, Bool, true, false, ◌&&◌, List, ◌++◌, refl, ◌∙◌, arith, nat_lt}
use Rattle.std.proofs.lemmas.Bool.{le-leb, ne_eqb}
use Rattle.std.proofs.lemmas.Bool.Decides.{nat_tests}
use Rattle.std.proofs.lemmas.List.Folds.{list_all-append}
use Rattle.std.specs.Char.{encode_utf8, is_control}
use Rattle.std.specs.List.{list_all}
use Rattle.kapi_loading.specs.Reasons.{is_shown}

-- a byte of a character that is not of ASCII
large : (b : ℕ) → 128 ≤ b → is_shown b ≡ true
large b h = rw (le-leb 32 b (omega (arith, h)), ne_eqb b 127 (λ e. omega (arith, h, e))) refl

-- a character of ASCII
small : (c : ℕ) → nat_lt c 128 ≡ true → is_control c ≡ false → is_shown c ≡ true
small c e h = grind (arith, nat_tests)

encode_shown : (c : ℕ) → is_control c ≡ false → list_all is_shown (encode_utf8 c) ≡ true
unfolding encode_utf8
encode_shown c h = by_one (nat_lt c 128) refl
  where
    by_three : (b : Bool) → nat_lt c 128 ≡ false → nat_lt c 2048 ≡ false → nat_lt c 65536 ≡ b → list_all is_shown (encode_utf8 c) ≡ true
    by_three true one two is =
        rw (one, two, is, large (224 + c / 4096) (omega arith), large (128 + c / 64 % 64) (omega arith), large (128 + c % 64) (omega arith)) refl
    by_three false one two is =
        rw (
          one,
          two,
          is,
          large (240 + c / 262144) (omega arith),
          large (128 + c / 4096 % 64) (omega arith),
          large (128 + c / 64 % 64) (omega arith),
          large (128 + c % 64) (omega arith),
        ) refl

    by_two : (b : Bool) → nat_lt c 128 ≡ false → nat_lt c 2048 ≡ b → list_all is_shown (encode_utf8 c) ≡ true
    by_two true one is = rw (one, is, large (192 + c / 64) (omega arith), large (128 + c % 64) (omega arith)) refl
    by_two false one is = by_three (nat_lt c 65536) one is refl

    by_one : (b : Bool) → nat_lt c 128 ≡ b → list_all is_shown (encode_utf8 c) ≡ true
    by_one true is = rw (is, small c is h) refl
    by_one false is = by_two (nat_lt c 2048) is refl

and_true : (a b : Bool) → b ≡ true → (a && b) ≡ a
and_true true b h = h
and_true false b h = refl

-- a character that is no control character, put at the end, changes nothing in whether all of the text is shown
pub shown_more : (text : List ℕ) (c : ℕ) → is_control c ≡ false → list_all is_shown (text ++ encode_utf8 c) ≡ list_all is_shown text
shown_more text c h = list_all-append is_shown text (encode_utf8 c) ∙ and_true (list_all is_shown text) (list_all is_shown (encode_utf8 c)) (encode_shown c h)
