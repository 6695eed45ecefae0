-- A part of a text that stands there once, and two texts around one number.
use Rattle.std.proofs.Common.{◌≡◌, ◌∙◌, ◌⊎◌, inl, inr, ℕ, zero, suc, ◌/◌, ◌%◌, ◌<◌, ◌≤◌, ◌==◌, true, false, if◌then◌else◌, None, List, [], ◌∷◌, ◌++◌, length, take, drop, refl, sym, ap, arith, bytes_eq, eq-eqb, eqb-true}
use Rattle.std.proofs.Math.Seq.{take-append_seam, drop-append_seam}
use Rattle.std.proofs.lemmas.Bool.{cases_eq, cases_lt}
use Rattle.std.proofs.lemmas.Bool.Decides.{nat_tests}
use Rattle.std.proofs.lemmas.List.{append_cancel_left, length-append, length-take-le, take-append-drop}
use Rattle.std.proofs.lemmas.Slice.Eq.{bytes_eq-Decides}
use Rattle.std.specs.Fmt.{decimal, digits, digits_onto, digit_glyph}
use Rattle.std.specs.Str.Pattern.{FindsText, RFindsText, SplitsAroundMatch, MatchBeginsAt}
use Rattle.json.specs.Print.{escape, escape_byte}
use Rattle.kapi_store.specs.Private.Cut.{HasOther, is_digit, is_near, past_digits}

-- ---- a part that stands once in a text

-- if the first and the last place of a part are one, it is each place of it
pub around_one : (s part front back a b : List ℕ) (last : ℕ) → SplitsAroundMatch (FindsText part) s front back → MatchBeginsAt (RFindsText part) s last
    → last ≡ length front → s ≡ a ++ (part ++ b) → (front ≡ a) × (back ≡ b)
around_one s part front back a b last first end same is =
    let i : first.0 ≡ length a = by_order (cases_lt (length a) first.0) (cases_lt last (length a)) in
    let before : front ≡ a = first.3 ∙ ap (λ k. take k s) i ∙ ap (take (length a)) is ∙ take-append_seam a (part ++ b) in
    let rest : part ++ drop first.1 s ≡ part ++ b = sym first.2.1.split ∙ ap (λ k. drop k s) i ∙ here in
    (before, first.4 ∙ append_cancel_left part (drop first.1 s) b rest)
  where
    here : drop (length a) s ≡ part ++ b
    here = ap (drop (length a)) is ∙ drop-append_seam a (part ++ b)

    room : length a ≤ length s
    room = omega (arith, ap length is, length-append a (part ++ b))

    by_order : (length a < first.0) ⊎ (first.0 ≤ length a) → (last < length a) ⊎ (length a ≤ last) → first.0 ≡ length a
    by_order (inl later) _ = absurd (first.2.0 (length a) later b here)
    by_order (inr below) (inl earlier) = absurd (end.1.0 (length a) earlier room b here)
    by_order (inr below) (inr above) = omega (arith, same, first.6)

-- a part stands where it was found
pub around_found : (s part front back : List ℕ) → SplitsAroundMatch (FindsText part) s front back → s ≡ front ++ (part ++ back)
around_found s part front back first =
    sym (take-append-drop first.0 s) ∙ ap (λ t. take first.0 s ++ t) first.2.1.split ∙ ap (λ f. f ++ (part ++ drop first.1 s)) (sym first.3) ∙ ap (λ t. front ++ (part ++ t)) (sym first.4)

-- a part that is not found stands nowhere
pub around_absent : (s part a b : List ℕ) → FindsText part s None → s ≡ a ++ (part ++ b) → HasOther s part a
around_absent s part a b absent is =
    let room : length a ≤ length s = omega (arith, ap length is, length-append a (part ++ b)) in
    absurd (absent (length a) room b (ap (drop (length a)) is ∙ drop-append_seam a (part ++ b)))

-- where the first and the last place of a part differ, it stands elsewhere too
pub around_other : (s part front back a : List ℕ) (last : ℕ) → SplitsAroundMatch (FindsText part) s front back → MatchBeginsAt (RFindsText part) s last
    → (last ≡ length front → ⊥) → HasOther s part a
around_other s part front back a last first end differ = by_place (cases_eq (length front) (length a))
  where
    by_place : (length front ≡ length a) ⊎ (length front ≡ length a → ⊥) → HasOther s part a
    by_place (inl here) = record {
      before = take last s;
      behind = drop end.0 s;
      there = sym (take-append-drop last s) ∙ ap (λ t. take last s ++ t) end.1.1.split;
      elsewhere = λ same. differ (sym (length-take-le last s end.3.0) ∙ ap length same ∙ sym here);
    }
    by_place (inr there) = record { before = front; behind = back; there = around_found s part front back first; elsewhere = λ same. there (ap length same) }

-- ---- digits

AreDigits : List ℕ → Type 0
AreDigits [] = Unit {0}
AreDigits (d ∷ ds) = (is_digit d ≡ true) × AreDigits ds

digit_is : (n : ℕ) → is_digit (digit_glyph false (n % 10)) ≡ true
digit_is n = let small : n % 10 < 10 = omega arith in grind (arith, nat_tests)

onto_are : (k n : ℕ) (acc : List ℕ) → AreDigits acc → AreDigits (digits_onto k 10 false n acc)
unfolding AreDigits
onto_are zero n acc h = h
onto_are (suc k) n acc h =
    let g : ℕ = digit_glyph false (n % 10) in
    elim (n / 10 == 0) as (λ b. AreDigits (if b then g ∷ acc else digits_onto k 10 false (n / 10) (g ∷ acc))) [
      | true ↦ (digit_is n, h)
      | false ↦ onto_are k (n / 10) (g ∷ acc) (digit_is n, h)
    ]

decimal_are : (n : ℕ) → AreDigits (decimal n)
unfolding digits AreDigits
decimal_are n = onto_are 64 n [] tt

plain : (d : ℕ) → is_digit d ≡ true → escape_byte d ≡ d ∷ []
unfolding escape_byte
plain d h = grind (arith, nat_tests)

escaped : (ds : List ℕ) → AreDigits ds → escape ds ≡ ds
unfolding AreDigits
escaped [] h = refl
escaped (d ∷ ds) h = rw (plain d h.0) (ap (λ es. d ∷ es) (escaped ds h.1))

pub escaped_decimal : (n : ℕ) → escape (decimal n) ≡ decimal n
escaped_decimal n = escaped (decimal n) (decimal_are n)

-- ---- texts that differ in one number

past_all : (ds rest : List ℕ) → AreDigits ds → past_digits (ds ++ rest) ≡ past_digits rest
unfolding AreDigits
past_all [] rest h = refl
past_all (d ∷ ds) rest h = rw h.0 (past_all ds rest h.1)

near_same : (xs : List ℕ) → is_near xs xs ≡ true
near_same [] = refl
near_same (x ∷ xs) = rw (eq-eqb x x refl) (near_same xs)

apart : (x y : ℕ) → is_digit x ≡ false → is_digit y ≡ true → (x == y) ≡ false
apart x y h k = elim (x == y) as (λ b. (x == y) ≡ b → b ≡ false) [
  | true ↦ λ is. let same : x ≡ y = eqb-true x y is in absurd (cc (same, h, k))
  | false ↦ λ is. refl
] refl

turned : (x y : ℕ) → (x == y) ≡ (y == x)
turned x y = grind (arith, nat_tests)

past_number : (ds : List ℕ) (q : ℕ) (b : List ℕ) → AreDigits ds → is_digit q ≡ false → past_digits (ds ++ q ∷ b) ≡ q ∷ b
past_number ds q b hd h = past_all ds (q ∷ b) hd ∙ rw h refl

same_bytes : (xs : List ℕ) → bytes_eq xs xs ≡ true
same_bytes xs = (bytes_eq-Decides xs xs).1 refl

near_digits : (v w : List ℕ) (q : ℕ) (b : List ℕ) → AreDigits v → AreDigits w → is_digit q ≡ false → is_near (v ++ q ∷ b) (w ++ q ∷ b) ≡ true
unfolding AreDigits
near_digits [] [] q b hv hw h = near_same (q ∷ b)
near_digits [] (y ∷ w) q b hv hw h = rw (apart q y h hw.0, h, hw.0, past_number w q b hw.1 h) (same_bytes (q ∷ b))
near_digits (x ∷ v) [] q b hv hw h = rw (turned x q ∙ apart q x h hv.0, h, hv.0, past_number v q b hv.1 h) (same_bytes (q ∷ b))
near_digits (x ∷ v) (y ∷ w) q b hv hw h =
    let last : bytes_eq (past_digits (x ∷ (v ++ q ∷ b))) (past_digits (y ∷ (w ++ q ∷ b))) ≡ true = rw (hv.0, hw.0, past_number v q b hv.1 h, past_number w q b hw.1 h) (same_bytes (q ∷ b)) in
    elim (x == y) as (λ c. (if c then is_near (v ++ q ∷ b) (w ++ q ∷ b) else bytes_eq (past_digits (x ∷ (v ++ q ∷ b))) (past_digits (y ∷ (w ++ q ∷ b)))) ≡ true) [
      | true ↦ near_digits v w q b hv.1 hw.1 h
      | false ↦ last
    ]

-- a text around a number is near the same text around another
pub near_around : (a : List ℕ) (m n : ℕ) (q : ℕ) (b : List ℕ) → is_digit q ≡ false → is_near (a ++ (decimal m ++ q ∷ b)) (a ++ (decimal n ++ q ∷ b)) ≡ true
near_around [] m n q b h = near_digits (decimal m) (decimal n) q b (decimal_are m) (decimal_are n) h
near_around (x ∷ a) m n q b h = rw (eq-eqb x x refl) (near_around a m n q b h)
