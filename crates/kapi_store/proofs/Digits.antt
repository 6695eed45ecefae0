-- Hexadecimal digits with zeros in front.
use Rattle.std.proofs.Common.{◌≡◌, ℕ, zero, suc, ◌+◌, ◌-◌, ◌/◌, ◌%◌, ◌^◌, ◌<◌, ◌≤◌, true, false, cond, nat_eq, List, [], ◌∷◌, ◌++◌, length, replicate, refl, sym, ap, ◌∙◌, append_assoc, append-nil, add-one, eq-eqb, eqb-true, arith}
use Rattle.std.specs.Fmt.{digit_glyph, digits_onto, digits, padded_integral, format_spec, char_count}
use Rattle.std.proofs.Math.Nat.{sub-zero}
use Rattle.std.proofs.lemmas.List.{replicate_more}
use Rattle.kapi_store.specs.UidAndVersion.{hex_digits}

-- a number of so many hexadecimal digits
Below : ℕ → ℕ → Type 0
Below zero n = n ≡ 0
Below (suc k) n = Below k (n / 16)

hex_zeros : (k : ℕ) → hex_digits k 0 ≡ replicate k 48
unfolding hex_digits
hex_zeros zero = refl
hex_zeros (suc k) = ap (λ ds. ds ++ 48 ∷ []) (hex_zeros k) ∙ replicate_more k 48 ∙ ap (λ j. replicate j 48) (add-one k)

-- the last digit to be written, and the zeros in front of it
hex_last : (k n : ℕ) (acc : List ℕ) → n / 16 ≡ 0
    → replicate (suc k + length acc - suc (length acc)) 48 ++ digit_glyph false (n % 16) ∷ acc ≡ (hex_digits k (n / 16) ++ digit_glyph false (n % 16) ∷ []) ++ acc
hex_last k n acc is =
    let g : ℕ = digit_glyph false (n % 16) in
    let zeros : suc k + length acc - suc (length acc) ≡ k = omega arith in
    let front : hex_digits k (n / 16) ≡ replicate k 48 = ap (hex_digits k) is ∙ hex_zeros k in
    ap (λ m. replicate m 48 ++ g ∷ acc) zeros
    ∙ sym (ap (λ ds. (ds ++ g ∷ []) ++ acc) front ∙ append_assoc (replicate k 48) (g ∷ []) acc)

-- zeros in front of the digits, and then what follows them
hex_onto : (k j n : ℕ) (acc : List ℕ) → Below (suc k) n → k ≤ j
    → replicate (suc k + length acc - length (digits_onto (suc j) 16 false n acc)) 48 ++ digits_onto (suc j) 16 false n acc ≡ hex_digits (suc k) n ++ acc
unfolding Below hex_digits
hex_onto zero j n acc small fuel = rw (eq-eqb (n / 16) 0 small) (hex_last zero n acc small)
hex_onto (suc k) zero n acc small fuel = absurd (omega arith)
hex_onto (suc k) (suc j) n acc small fuel =
    let g : ℕ = digit_glyph false (n % 16) in
    elim (nat_eq (n / 16) 0) as (λ b. nat_eq (n / 16) 0 ≡ b → replicate (suc (suc k) + length acc - length (cond b (g ∷ acc) (digits_onto (suc j) 16 false (n / 16) (g ∷ acc)))) 48 ++ cond b (g ∷ acc) (digits_onto (suc j) 16 false (n / 16) (g ∷ acc))
    ≡ (hex_digits (suc k) (n / 16) ++ g ∷ []) ++ acc) [
      | true ↦ λ is. hex_last (suc k) n acc (eqb-true (n / 16) 0 is)
      | false ↦ λ is.
          let ds : List ℕ = digits_onto (suc j) 16 false (n / 16) (g ∷ acc) in
          let room : suc (suc k) + length acc ≡ suc k + suc (length acc) = omega arith in
          ap (λ m. replicate (m - length ds) 48 ++ ds) room ∙ hex_onto k j (n / 16) (g ∷ acc) small (omega arith) ∙ sym (append_assoc (hex_digits (suc k) (n / 16)) (g ∷ []) acc)
    ] refl

padded_twelve : (ds : List ℕ) → padded_integral (format_spec 32 0 4 12 (2 ^ 64 - 1)) false [] ds ≡ replicate (12 - length ds) 48 ++ ds
unfolding padded_integral char_count
padded_twelve ds = simp (sub-zero, append-nil)

hex_twelve : (n : ℕ) → n < 2 ^ 48 → (ds : List ℕ) → ds ≡ digits_onto (suc 63) 16 false n [] → replicate (12 - length ds) 48 ++ ds ≡ hex_digits 12 n
unfolding Below
hex_twelve n small ds is = rw is (hex_onto 11 63 n [] (omega arith) (omega arith) ∙ append-nil (hex_digits 12 n))

digits_are : (n : ℕ) → digits 16 false n ≡ digits_onto (suc 63) 16 false n []
unfolding digits
digits_are n = refl

pub hex_padded : (n : ℕ) → n < 2 ^ 48 → padded_integral (format_spec 32 0 4 12 (2 ^ 64 - 1)) false [] (digits 16 false n) ≡ hex_digits 12 n
hex_padded n small = padded_twelve (digits 16 false n) ∙ hex_twelve n small (digits 16 false n) (digits_are n)
