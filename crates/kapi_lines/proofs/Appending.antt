-- What was appended to the bytes that a writer holds.
use Rattle.std.specs.List.{flat_map}
use Rattle.std.proofs.lemmas.Grind.{flat_map-append}
use Rattle.std.proofs.lemmas.List.{take_more}
use Rattle.std.proofs.Common.{append-nil, ◌+◌, ◌<◌, length, take, get_or, subst, ℕ, List, [], ◌∷◌, ◌++◌, Option, Some, None, sym, ap, ◌∙◌, append_assoc}
use Rattle.std.specs.Io.KnownBytes.{Appends}

-- nothing was appended yet
pub appends_nothing : (o : Option (List ℕ)) → Appends o o []
appends_nothing None = tt
appends_nothing (Some xs) = sym (append-nil xs)

-- first a, and then b
pub appends_more : (old mid new : Option (List ℕ)) (a b : List ℕ) → Appends old mid a → Appends mid new b → Appends old new (a ++ b)
appends_more None mid new a b h k = tt
appends_more (Some xs) None new a b h k = absurd h
appends_more (Some xs) (Some ys) None a b h k = absurd k
appends_more (Some xs) (Some ys) (Some zs) a b h k = k ∙ ap (λ l. l ++ b) h ∙ append_assoc xs a b

-- the text of one byte more
pub appends_byte : (old mid new : Option (List ℕ)) (f : ℕ → List ℕ) (bytes : List ℕ) (i : ℕ) → i < length bytes
    → Appends old mid (flat_map f (take i bytes)) → Appends mid new (f (get_or bytes i 0)) → Appends old new (flat_map f (take (i + 1) bytes))
appends_byte old mid new f bytes i below h k =
    subst (λ text. Appends old new text)
    (sym (ap (flat_map f) (take_more bytes i 0 below) ∙ flat_map-append f (take i bytes) (get_or bytes i 0 ∷ []) ∙ ap (λ t. flat_map f (take i bytes) ++ t) (append-nil (f (get_or bytes i 0)))))
    (appends_more old mid new (flat_map f (take i bytes)) (f (get_or bytes i 0)) h k)
