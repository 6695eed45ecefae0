-- Pieces that are joined.
use Rattle.std.proofs.Common.{◌≡◌, ℕ, ◌≤◌, List, [], ◌∷◌, ◌++◌, length, drop, take, min, ◌+◌, sym, ap, ◌∙◌, append_assoc, arith, inl, inr}
use Rattle.std.proofs.lemmas.Bool.{cases_lt}
use Rattle.std.proofs.lemmas.List.{append-nil, drop-drop, drop_all, length-append, length-drop, take-append-drop}
use Rattle.kapi_serve.specs.Private.Pieces.{joined}

-- a piece more
pub joined_push : (pieces : List (List ℕ)) (piece : List ℕ) → joined (pieces ++ piece ∷ []) ≡ joined pieces ++ piece
joined_push [] piece = append-nil piece
joined_push (p ∷ pieces) piece = ap (λ xs. p ++ xs) (joined_push pieces piece) ∙ sym (append_assoc p (joined pieces) piece)

-- a piece is pushed behind other bytes
pub owed_push : (front : List ℕ) (pieces : List (List ℕ)) (piece : List ℕ) → front ++ joined (pieces ++ piece ∷ []) ≡ (front ++ joined pieces) ++ piece
owed_push front pieces piece = ap (λ xs. front ++ xs) (joined_push pieces piece) ∙ sym (append_assoc front (joined pieces) piece)

-- nothing is pending
pub owed_none : (head : List ℕ) (pieces : List (List ℕ)) → head ≡ [] → pieces ≡ [] → drop 0 head ++ joined pieces ≡ []
owed_none head pieces empty none = (λ j. empty j ++ joined (none j))

-- the next piece takes the place of a head that was sent
pub owed_next : (head : List ℕ) (sent : ℕ) (piece : List ℕ) (old new : List (List ℕ)) → length head ≤ sent → old ≡ piece ∷ new → drop 0 piece ++ joined new ≡ drop sent head ++ joined old
owed_next head sent piece old new out next = sym (λ j. drop_all sent head out j ++ joined (next j))

-- some of the head was sent
taken : (xs : List ℕ) (sent count : ℕ) (rest : List ℕ) → drop sent xs ++ rest ≡ take count (drop sent xs) ++ (drop (sent + count) xs ++ rest)
taken xs sent count rest = ap (λ ys. ys ++ rest) (sym (take-append-drop count (drop sent xs))) ∙ append_assoc (take count (drop sent xs)) (drop count (drop sent xs)) rest
    ∙ ap (λ ys. take count (drop sent xs) ++ (ys ++ rest)) (drop-drop count sent xs)

pub owed_pass : (head : List ℕ) (sent count next : ℕ) (rest : List ℕ) → count ≤ length (drop sent head) → next ≡ min (min (sent + count) 18446744073709551615) (length head)
    → length head ≤ 18446744073709551615 → drop sent head ++ rest ≡ take count (drop sent head) ++ (drop next head ++ rest)
owed_pass head sent count next rest few is bound = elim (cases_lt sent (length head)) [
  | inl below ↦
      let same : sent + count ≡ next = omega (arith, length-drop sent head, few, is, bound, below) in
      taken head sent count rest ∙ ap (λ n. take count (drop sent head) ++ (drop n head ++ rest)) same
  | inr above ↦
      let none : count ≡ 0 = omega (arith, length-drop sent head, few, above) in
      let all : next ≡ length head = omega (arith, is, bound, above) in
      ap (λ ys. ys ++ rest) (drop_all sent head above ∙ sym (drop_all next head (omega (arith, all)))) ∙ ap (λ n. take n (drop sent head) ++ (drop next head ++ rest)) (sym none)
]

-- the count of a piece more is no more than the bytes
pub counted_push : (head : List ℕ) (sent : ℕ) (old new : List (List ℕ)) (piece : List ℕ) (count next : ℕ) → count ≤ length (drop sent head ++ joined old) → new ≡ old ++ piece ∷ [] → next ≡ min (count + length piece) 18446744073709551615
    → next ≤ length (drop sent head ++ joined new)
counted_push head sent old new piece count next few is next_is =
    let all : drop sent head ++ joined new ≡ (drop sent head ++ joined old) ++ piece = ap (λ ps. drop sent head ++ joined ps) is ∙ owed_push (drop sent head) old piece in
    let long : length (drop sent head ++ joined new) ≡ length (drop sent head ++ joined old) + length piece = ap length all ∙ length-append (drop sent head ++ joined old) piece in
    omega (arith, few, next_is, long)
