-- Lists: a fold over one element more, and what is made of each.
use Rattle.std.proofs.Common.{◌≡◌, ◌∙◌, ℕ, List, [], ◌∷◌, ◌++◌, ap, map, refl}
use Rattle.std.specs.List.{flat_map, fold, join_by}

pub fold_last : {X Y : Type 0} (f : Y → X → Y) (start : Y) (list : List X) (last : X) → fold f start (list ++ last ∷ []) ≡ f (fold f start list) last
fold_last f start [] last = refl
fold_last f start (x ∷ list) last = fold_last f (f start x) list last

-- what is made of what each is seen as
pub mapped : {X Y Z : Type 0} (f : Y → Z) (g : X → Y) (xs : List X) (ys : List Y) → map g xs ≡ ys → map (λ x. f (g x)) xs ≡ map f ys
mapped f g [] ys h = ap (map f) h
mapped f g (x ∷ xs) ys h = ap (λ l. f (g x) ∷ l) (mapped f g xs (map g xs) refl) ∙ ap (map f) h

each_behind : {X : Type 0} (f : X → List ℕ) (sep : List ℕ) (xs : List X) → flat_map (λ x. sep ++ f x) xs ≡ flat_map (λ t. sep ++ t) (map f xs)
each_behind f sep [] = refl
each_behind f sep (x ∷ xs) = ap (λ l. (sep ++ f x) ++ l) (each_behind f sep xs)

-- texts that are joined are joined as what they are seen as
pub joined_by : {X : Type 0} (f : X → List ℕ) (sep : List ℕ) (xs : List X) (ys : List (List ℕ)) → map f xs ≡ ys → join_by f sep xs ≡ join_by (λ t. t) sep ys
joined_by f sep [] ys h = ap (join_by (λ t. t) sep) h
joined_by f sep (x ∷ xs) ys h = ap (λ l. f x ++ l) (each_behind f sep xs) ∙ ap (join_by (λ t. t) sep) h
