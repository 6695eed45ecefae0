-- The last of a list, and numbered lists.
use Rattle.std.proofs.Common.{◌≡◌, ℕ, zero, suc, ◌+◌, ◌-◌, ◌≤◌, min, List, [], ◌∷◌, ◌++◌, length, drop, map, refl, sym, ap, ◌∙◌, subst, arith}
use Rattle.std.specs.Prelude.{nat_lt}
use Rattle.std.specs.List.{filter}
use Rattle.std.proofs.lemmas.Bool.{lt-ltb, le-ltb}
use Rattle.std.proofs.lemmas.List.{drop-append-le, length-append, length-drop, length-map, drop-map}
use Rattle.kapi_store.specs.Changes.{last_of, Follow}

module _ {X : Type 0} where
  drop_none : (n : ℕ) → drop {A = X} n [] ≡ []
  drop_none zero = refl
  drop_none (suc n) = refl

  drop_drop : (m n : ℕ) (xs : List X) → drop m (drop n xs) ≡ drop (m + n) xs
  drop_drop m zero xs = let e : m ≡ m + 0 = omega arith in ap (λ k. drop k xs) e
  drop_drop m (suc n) [] = drop_none m ∙ sym (drop_none (m + suc n))
  drop_drop m (suc n) (x ∷ xs) = let e : suc (m + n) ≡ m + suc n = omega arith in drop_drop m n xs ∙ ap (λ k. drop k (x ∷ xs)) e

  -- what is behind the last of a list goes on from the list
  pub last_last : (n : ℕ) (xs ys : List X) → last_of n (last_of n xs ++ ys) ≡ last_of n (xs ++ ys)
  last_last n xs ys =
      let over : ℕ = length xs - n in
      let le : over ≤ length xs = omega arith in
      let front : drop over (xs ++ ys) ≡ drop over xs ++ ys = drop-append-le over xs ys le in
      let len : length (drop over xs ++ ys) ≡ length (drop over xs) + length ys = length-append (drop over xs) ys in
      let kept : length (drop over xs) ≡ length xs - over = length-drop over xs in
      let all : length (xs ++ ys) ≡ length xs + length ys = length-append xs ys in
      let more : ℕ = length (drop over xs ++ ys) - n in
      let sum : more + over ≡ length (xs ++ ys) - n = omega arith in
      ap (drop more) (sym front) ∙ drop_drop more over (xs ++ ys) ∙ ap (λ k. drop k (xs ++ ys)) sum

  -- the last of the last
  pub last_shorter : (m n : ℕ) (xs : List X) → m ≤ n → last_of m (last_of n xs) ≡ last_of m xs
  last_shorter m n xs le =
      let over : ℕ = length xs - n in
      let kept : length (drop over xs) ≡ length xs - over = length-drop over xs in
      let sum : (length (drop over xs) - m) + over ≡ length xs - m = omega arith in
      drop_drop (length (drop over xs) - m) over xs ∙ ap (λ k. drop k xs) sum

  -- to take out more than there is
  drop_to : (m n : ℕ) (xs : List X) → n ≡ min m (length xs) → drop m xs ≡ drop n xs
  drop_to zero n xs is = let e : 0 ≡ n = omega arith in ap (λ k. drop k xs) e
  drop_to (suc m) n [] is = let e : 0 ≡ n = omega arith in ap (λ k. drop {A = X} k []) e
  drop_to (suc m) zero (x ∷ xs) is = absurd (omega arith)
  drop_to (suc m) (suc n) (x ∷ xs) is = drop_to m n xs (omega arith)

  pub last_within : (n : ℕ) (xs ys : List X) → ys ≡ last_of n xs → length ys ≤ n
  last_within n xs ys is =
      let len : length ys ≡ length (drop (length xs - n) xs) = ap length is in
      let kept : length (drop (length xs - n) xs) ≡ length xs - (length xs - n) = length-drop (length xs - n) xs in
      omega arith

  pub last_none : (n : ℕ) (xs : List X) → length xs ≤ n → last_of n xs ≡ xs
  last_none n xs h = let none : length xs - n ≡ 0 = omega arith in ap (λ k. drop k xs) none

pub last_map : {X Y : Type 0} (f : X → Y) (n : ℕ) (xs : List X) → map f (last_of n xs) ≡ last_of n (map f xs)
last_map f n xs = sym (drop-map f (length xs - n) xs) ∙ ap (λ k. drop (k - n) (map f xs)) (sym (length-map xs f))

module _ {X : Type 0} (number : X → ℕ) where
  pub Follow_append : (before : ℕ) (xs ys : List X) → Follow number before xs → Follow number (before + length xs) ys → Follow number before (xs ++ ys)
  unfolding Follow
  Follow_append before [] ys h k = let e : before + 0 ≡ before = omega arith in let P : ℕ → Type 0 = λ n. Follow number n ys in subst P e k
  Follow_append before (x ∷ xs) ys h k =
      let e : before + suc (length xs) ≡ before + 1 + length xs = omega arith in
      let P : ℕ → Type 0 = λ n. Follow number n ys in
      (h.0, Follow_append (before + 1) xs ys h.1 (subst P e k))

  pub Follow_drop : (n before : ℕ) (xs : List X) → n ≤ length xs → Follow number before xs → Follow number (before + n) (drop n xs)
  unfolding Follow
  Follow_drop zero before xs le h = let e : before ≡ before + 0 = omega arith in let P : ℕ → Type 0 = λ n. Follow number n xs in subst P e h
  Follow_drop (suc n) before [] le h = absurd (omega arith)
  Follow_drop (suc n) before (x ∷ xs) le h =
      let e : before + 1 + n ≡ before + suc n = omega arith in
      let P : ℕ → Type 0 = λ k. Follow number k (drop n xs) in
      subst P e (Follow_drop n (before + 1) xs (omega arith) h.1)

  -- all numbers are past a limit that is not past the start
  all_after : (limit before : ℕ) (xs : List X) → limit ≤ before → Follow number before xs → filter (λ x. nat_lt limit (number x)) xs ≡ xs
  unfolding Follow
  all_after limit before [] le h = refl
  all_after limit before (x ∷ xs) le h =
      rw (lt-ltb limit (number x) (omega arith)) (ap (λ xs. x ∷ xs) (all_after limit (before + 1) xs (omega arith) h.1))

  -- the items past a limit are all but the first so many
  filter_after : (skipped limit before : ℕ) (xs : List X) → limit ≡ before + skipped → Follow number before xs → filter (λ x. nat_lt limit (number x)) xs ≡ drop skipped xs
  unfolding Follow
  filter_after zero limit before xs is h = all_after limit before xs (omega arith) h
  filter_after (suc n) limit before [] is h = refl
  filter_after (suc n) limit before (x ∷ xs) is h =
      rw (le-ltb limit (number x) (omega arith)) (filter_after n limit (before + 1) xs (omega arith) h.1)

  -- of numbered items, those past a limit are the last so many
  pub numbered_after : (limit count before : ℕ) (xs : List X) → Follow number before xs → before ≤ limit → count ≡ (before + length xs) - limit
      → last_of count xs ≡ filter (λ x. nat_lt limit (number x)) xs
  numbered_after limit count before xs h le is =
      sym (filter_after (limit - before) limit before xs (omega arith) h ∙ drop_to (limit - before) (length xs - count) xs (omega arith))

pub Follow_map : {X Y : Type 0} (f : X → Y) (number : Y → ℕ) (before : ℕ) (xs : List X) → Follow (λ x. number (f x)) before xs → Follow number before (map f xs)
unfolding Follow
Follow_map f number before [] h = tt
Follow_map f number before (x ∷ xs) h = (h.0, Follow_map f number (before + 1) xs h.1)
