-- How questions are shared among readers.
use Rattle.std.specs.Prelude.{◌≡◌, ℕ, zero, suc, ◌+◌, List, [], ◌∷◌}

-- of a list the entry behind so many, and then each behind so many others
unfoldable pub share : {A : Type 0} → ℕ → ℕ → List A → List A
share wait others [] = []
share zero others (x ∷ xs) = x ∷ share others others xs
share (suc wait) others (x ∷ xs) = share wait others xs

-- these are the shares of the readers from one number up to another, beside each of which there are so many others
unfoldable pub AreShares : {A : Type 0} → ℕ → ℕ → ℕ → List A → List (List A) → Type 0
AreShares from end others xs [] = from ≡ end
AreShares from end others xs (s ∷ ss) = (s ≡ share from others xs) × AreShares (from + 1) end others xs ss
