-- The pieces of a selector's tokens, one token after another.
use Rattle.std.proofs.Common.{◌≡◌, ℕ, ◌+◌, ◌-◌, ◌<◌, ◌≤◌, List, [], ◌∷◌, ◌++◌, length, get_or, take, drop, Bool, true, false, refl, sym, ap, ◌∙◌, append_assoc, take_all}
use Rattle.std.proofs.lemmas.List.{append-nil, drop_all, drop_more, take_more, take_rest}
use Rattle.kapi_model.specs.declared.selector_token.Token.{Token}
use Rattle.kapi_model.specs.SelectorText.{is_inside, is_parting, onto_first, pieces}

-- tokens before the first piece
abbrev pub onto : List Token → List (List Token) → List (List Token)
onto xs [] = []
onto xs (p ∷ ps) = (xs ++ p) ∷ ps

onto_none : (ps : List (List Token)) → onto [] ps ≡ ps
onto_none [] = refl
onto_none (p ∷ ps) = refl

onto_more : (xs : List Token) (t : Token) (ps : List (List Token)) → onto xs (onto_first t ps) ≡ onto (xs ++ t ∷ []) ps
onto_more xs t [] = refl
onto_more xs t (p ∷ ps) = ap (λ l. l ∷ ps) (sym (append_assoc xs (t ∷ []) p))

pieces_more : (inside : Bool) (t : Token) (ts xs : List Token) → is_parting inside t ≡ false
    → onto xs (pieces inside (t ∷ ts)) ≡ onto (xs ++ t ∷ []) (pieces (is_inside inside t) ts)
unfolding pieces
pieces_more inside t ts xs h = rw h (onto_more xs t (pieces (is_inside inside t) ts))

pieces_parted : (inside : Bool) (t : Token) (ts xs : List Token) → is_parting inside t ≡ true → onto xs (pieces inside (t ∷ ts)) ≡ xs ∷ pieces false ts
unfolding pieces
pieces_parted inside t ts xs h = rw h (ap (λ l. l ∷ pieces false ts) (append-nil xs))

pieces_end : (inside : Bool) (xs : List Token) → onto xs (pieces inside []) ≡ xs ∷ []
unfolding pieces
pieces_end inside xs = ap (λ l. l ∷ []) (append-nil xs)

-- so many tokens of the list are of the first piece
abbrev pub IsFront : List Token → ℕ → Bool → Type 0
IsFront s i inside = onto (take i s) (pieces inside (drop i s)) ≡ pieces false s

pub front_begins : (s : List Token) → IsFront s 0 false
front_begins s = onto_none (pieces false s)

pub front_is_parted : (s : List Token) (i : ℕ) (inside : Bool) (t : Token) → i < length s → t ≡ get_or s i t → is_parting inside t ≡ true → IsFront s i inside
    → pieces false s ≡ take i s ∷ pieces false (take (length s - (i + 1)) (drop (i + 1) s))
front_is_parted s i inside t lt at parts inv =
    let here : drop i s ≡ t ∷ drop (i + 1) s = drop_more s i t lt ∙ ap (λ x. x ∷ drop (i + 1) s) (sym at) in
    sym inv ∙ ap (λ d. onto (take i s) (pieces inside d)) here ∙ pieces_parted inside t (drop (i + 1) s) (take i s) parts
    ∙ ap (λ d. take i s ∷ pieces false d) (sym (take_rest s (i + 1)))

pub front_goes_on : (s : List Token) (i : ℕ) (inside next : Bool) (t : Token) → i < length s → t ≡ get_or s i t → is_parting inside t ≡ false → next ≡ is_inside inside t
    → IsFront s i inside → IsFront s (i + 1) next
front_goes_on s i inside next t lt at stays is inv =
    let rest : List Token = drop (i + 1) s in
    let here : drop i s ≡ t ∷ rest = drop_more s i t lt ∙ ap (λ x. x ∷ rest) (sym at) in
    let taken : take (i + 1) s ≡ take i s ++ t ∷ [] = take_more s i t lt ∙ ap (λ x. take i s ++ x ∷ []) (sym at) in
    ap (λ xs. onto xs (pieces next rest)) taken ∙ ap (λ b. onto (take i s ++ t ∷ []) (pieces b rest)) is
    ∙ sym (pieces_more inside t rest (take i s) stays) ∙ ap (λ d. onto (take i s) (pieces inside d)) (sym here) ∙ inv

pub front_is_all : (s : List Token) (i : ℕ) (inside : Bool) → length s ≤ i → IsFront s i inside → pieces false s ≡ s ∷ []
front_is_all s i inside le inv =
    sym inv ∙ ap (λ xs. onto xs (pieces inside (drop i s))) (take_all i s le) ∙ ap (λ d. onto s (pieces inside d)) (drop_all i s le) ∙ pieces_end inside s
