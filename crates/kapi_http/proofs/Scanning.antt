-- Scans of texts in pieces.
use Rattle.std.proofs.Common.{◌≡◌, ℕ, ◌+◌, ◌≤◌, suc, Bool, true, false, List, [], ◌∷◌, ◌++◌, length, take, refl, sym, ap, ◌∙◌, arith}
use Rattle.std.specs.Prelude.{◌==◌, drop}
use Rattle.std.specs.List.{position_or_len}
use Rattle.kapi_http.specs.Scan.{is_ended, lines_ended, scanned, step}
use Rattle.kapi_http.specs.declared.scan.HeadState.{HeadState}
use Rattle.kapi_http.specs.declared.scan.HeadState.TheVariants.{Leading, LeadingCr, Inside, LineStart, LineCr, Ended}
use Rattle.kapi_http.specs.declared.scan.Scan.{Scan}

-- nothing is read behind the end of a head
pub scanned_ended : (s : Scan) (bytes : List ℕ) → is_ended s.place ≡ true → scanned s bytes ≡ s
unfolding scanned
scanned_ended s [] e = refl
scanned_ended s (b ∷ bytes) e = rw e refl

-- two pieces one after the other
pub scanned_append : (s : Scan) (a b : List ℕ) → scanned s (a ++ b) ≡ scanned (scanned s a) b
unfolding scanned
scanned_append s [] b = refl
scanned_append s (x ∷ a) b = by_place (is_ended s.place) refl (scanned_append (step s x) a b)
  where
    by_place : (e : Bool) → is_ended s.place ≡ e → scanned (step s x) (a ++ b) ≡ scanned (scanned (step s x) a) b
        → scanned s (x ∷ (a ++ b)) ≡ scanned (scanned s (x ∷ a)) b
    by_place true e more = rw e (sym (scanned_ended s b e))
    by_place false e more = rw e more

-- the scan of some bytes depends only on the bytes at the front that were read
pub scanned_take : (s : Scan) (bytes : List ℕ)
    → (n : ℕ) × (n ≤ length bytes) × ((scanned s bytes).at ≡ s.at + n) × (scanned s (take n bytes) ≡ scanned s bytes)
unfolding scanned
scanned_take s [] = (0, omega arith, omega arith, refl)
scanned_take s (b ∷ bytes) = by_place (is_ended s.place) refl (scanned_take (step s b) bytes)
  where
    Reads : Scan → List ℕ → Type 0
    Reads t text = (n : ℕ) × (n ≤ length text) × ((scanned t text).at ≡ t.at + n) × (scanned t (take n text) ≡ scanned t text)

    by_place : (e : Bool) → is_ended s.place ≡ e → Reads (step s b) bytes → Reads s (b ∷ bytes)
    by_place true e more = (0, omega arith, rw e (omega arith), rw e refl)
    by_place false e more =
        let count : (scanned (step s b) bytes).at ≡ s.at + 1 + more.0 = more.2 in
        (suc more.0, omega (arith, more.1), rw e (count ∙ omega arith), rw e more.3)

-- a scan that did not end read all bytes
pub scanned_all : (s : Scan) (bytes : List ℕ) → is_ended (scanned s bytes).place ≡ false → (scanned s bytes).at ≡ s.at + length bytes
unfolding scanned
scanned_all s [] e = omega arith
scanned_all s (b ∷ bytes) e = by_place (is_ended s.place) refl (scanned_all (step s b) bytes)
  where
    by_place : (t : Bool) → is_ended s.place ≡ t
        → (is_ended (scanned (step s b) bytes).place ≡ false → (scanned (step s b) bytes).at ≡ s.at + 1 + length bytes)
        → (scanned s (b ∷ bytes)).at ≡ s.at + length (b ∷ bytes)
    by_place true t more = absurd (let going = rw t at e in let shut : is_ended s.place ≡ true = t in cc)
    by_place false t more = let going = rw t at e in rw t (more going ∙ omega arith)

-- the lines are at most as many as the bytes
pub lines_bounded : (s : Scan) (bytes : List ℕ) → s.lines ≤ s.at → (scanned s bytes).lines ≤ (scanned s bytes).at
unfolding scanned
lines_bounded s [] h = h
lines_bounded s (b ∷ bytes) h = by_place (is_ended s.place) refl (lines_bounded (step s b) bytes (one_more s.place b))
  where
    one_more : (p : HeadState) (b : ℕ) → s.lines + lines_ended p b ≤ s.at + 1
    one_more Leading b = omega (arith, h)
    one_more LeadingCr b = omega (arith, h)
    one_more Inside b = by_byte (b == 10) refl
      where
        by_byte : (t : Bool) → (b == 10) ≡ t → s.lines + lines_ended Inside b ≤ s.at + 1
        by_byte true t = rw t (omega (arith, h))
        by_byte false t = rw t (omega (arith, h))
    one_more LineStart b = omega (arith, h)
    one_more LineCr b = omega (arith, h)
    one_more Ended b = omega (arith, h)

    by_place : (t : Bool) → is_ended s.place ≡ t → (scanned (step s b) bytes).lines ≤ (scanned (step s b) bytes).at
        → (scanned s (b ∷ bytes)).lines ≤ (scanned s (b ∷ bytes)).at
    by_place true t more = rw t h
    by_place false t more = rw t more

-- the scan inside of a line
abbrev inside : ℕ → ℕ → Scan
inside at lines = record { place = Inside; at = at; lines = lines }

-- how many bytes come before the next LF
abbrev rest_of_line : List ℕ → ℕ
rest_of_line bytes = position_or_len (λ b. b == 10) bytes

-- inside of a line only its LF changes the place
scanned_inside : (bytes : List ℕ) (at lines : ℕ)
    → scanned (inside (at + rest_of_line bytes) lines) (drop (rest_of_line bytes) bytes) ≡ scanned (inside at lines) bytes
unfolding scanned
scanned_inside [] at lines = ap (λ n. inside n lines) (omega arith)
scanned_inside (b ∷ bytes) at lines = by_byte (b == 10) refl (scanned_inside bytes (at + 1) lines)
  where
    Skips : Type 0
    Skips = scanned (inside (at + rest_of_line (b ∷ bytes)) lines) (drop (rest_of_line (b ∷ bytes)) (b ∷ bytes)) ≡ scanned (inside at lines) (b ∷ bytes)

    by_byte : (t : Bool) → (b == 10) ≡ t
        → scanned (inside (at + 1 + rest_of_line bytes) lines) (drop (rest_of_line bytes) bytes) ≡ scanned (inside (at + 1) lines) bytes
        → Skips
    by_byte true t more =
        let none : rest_of_line (b ∷ bytes) ≡ 0 = rw t refl in
        let same : at + 0 ≡ at = omega arith in
        rw none (ap (λ n. scanned (inside n lines) (b ∷ bytes)) same)
    by_byte false t more =
        let k : ℕ = rest_of_line bytes in
        let some : rest_of_line (b ∷ bytes) ≡ suc k = rw t (omega arith) in
        let count : at + suc k ≡ at + 1 + k = omega arith in
        let next : scanned (inside (at + 1) lines) bytes ≡ scanned (inside at lines) (b ∷ bytes) =
        rw t (ap (λ n. scanned (inside (at + 1) n) bytes) (omega arith)) in
        rw some (ap (λ n. scanned (inside n lines) (drop k bytes)) count ∙ more ∙ next)

-- the scan of a place inside of a line is that behind the rest of the line
pub scanned_line : (s : Scan) (bytes : List ℕ) → s.place ≡ Inside
    → scanned (record { place = Inside; at = s.at + position_or_len (λ b. b == 10) bytes; lines = s.lines }) (drop (position_or_len (λ b. b == 10) bytes) bytes)
    ≡ scanned s bytes
scanned_line s bytes h = scanned_inside bytes s.at s.lines ∙ ap (λ p. scanned (record { place = p; at = s.at; lines = s.lines }) bytes) (sym h)
