-- A check of each item, one behind the other.
use Rattle.std.proofs.Common.{◌≡◌, ℕ, suc, ◌+◌, ◌<◌, ◌≤◌, List, [], ◌∷◌, ◌++◌, Option, None, Some, Result, Ok, Err, sym, ap, ◌∙◌, subst, append_assoc, append-nil, add-one, drop, drop-cons, get_or, length, refl}
use Rattle.std.proofs.lemmas.List.{drop_all}
use Rattle.kapi_text.specs.ResultIs.{Fails, ◌>>=◌}
use Rattle.kapi_c_requests.specs.Each.{each}

module _ {X Y F : Type 0} (f : X → Result Y F) where
  -- results in front of those that are given
  abbrev prefixed : List Y → Result (List Y) F → Result (List Y) F
  prefixed done given = given >>= λ rest. Ok (done ++ rest)

  -- behind those that are done, the items from a place on give what all give
  abbrev pub Going : List X → ℕ → List Y → Type 0
  Going xs i done = prefixed done (each f (drop i xs)) ≡ each f xs

  one_more : (done : List Y) (y : Y) (x : X) (xs : List X) → f x ≡ Ok y → prefixed done (each f (x ∷ xs)) ≡ prefixed (done ++ y ∷ []) (each f xs)
  unfolding each
  one_more done y x xs is =
      let P : Result Y F → Type 0 = λ r. prefixed done (r >>= λ z. (each f xs >>= λ zs. Ok (z ∷ zs))) ≡ prefixed (done ++ y ∷ []) (each f xs) in
      subst P (sym is) (by_rest (each f xs))
    where
      by_rest : (r : Result (List Y) F) → prefixed done (r >>= λ zs. Ok (y ∷ zs)) ≡ prefixed (done ++ y ∷ []) r
      by_rest (Ok rest) = ap Ok (sym (append_assoc done (y ∷ []) rest))
      by_rest (Err e) = refl

  one_bad : (done : List Y) (x : X) (xs : List X) (e : F) → f x ≡ Err e → prefixed done (each f (x ∷ xs)) ≡ Err e
  unfolding each
  one_bad done x xs e is =
      let P : Result Y F → Type 0 = λ r. prefixed done (r >>= λ z. (each f xs >>= λ zs. Ok (z ∷ zs))) ≡ Err e in
      subst P (sym is) refl

  -- an item more
  pub going_more : (xs : List X) (i : ℕ) (d : X) (done : List Y) (y : Y) → i < length xs → Going xs i done → f (get_or xs i d) ≡ Ok y → Going xs (i + 1) (done ++ y ∷ [])
  going_more xs i d done y below h is =
      let given : List X → Result (List Y) F = λ zs. prefixed done (each f zs) in
      let said = sym (one_more done y (get_or xs i d) (drop (suc i) xs) is) ∙ ap given (sym (drop-cons xs i d below)) ∙ h in
      subst (λ n. Going xs n (done ++ y ∷ [])) (sym (add-one i)) said

  -- an item that fails
  pub going_bad : (xs : List X) (i : ℕ) (d : X) (done : List Y) (o : Option F) → i < length xs → Going xs i done → Fails o (f (get_or xs i d)) → Fails o (each f xs)
  going_bad xs i d done None below h fails = tt
  going_bad xs i d done (Some e) below h fails =
      let given : List X → Result (List Y) F = λ zs. prefixed done (each f zs) in
      sym h ∙ ap given (drop-cons xs i d below) ∙ one_bad done (get_or xs i d) (drop (suc i) xs) e fails

  -- no item is left
  pub going_all : (xs : List X) (i : ℕ) (done : List Y) → length xs ≤ i → Going xs i done → each f xs ≡ Ok done
  unfolding each
  going_all xs i done past h =
      let given : List X → Result (List Y) F = λ zs. prefixed done (each f zs) in
      sym h ∙ ap given (drop_all i xs past) ∙ ap Ok (append-nil done)

  -- none is done at first
  pub going_none : (xs : List X) → Going xs 0 []
  going_none xs = whole (each f xs)
    where
      whole : (r : Result (List Y) F) → prefixed [] r ≡ r
      whole (Ok rest) = refl
      whole (Err e) = refl
