-- The version in the text of an object, and texts that differ in one number.
use Rattle.std.specs.Prelude.{◌≡◌, ℕ, Bool, ◌&&◌, ◌==◌, nat_le, List, [], ◌∷◌, ◌++◌, codes, decimal, if◌then◌else◌}
use Rattle.std.specs.Str.{bytes_eq}

-- a revision as the version in the metadata of a compact text
abbrev pub version_text : ℕ → List ℕ
version_text revision = codes "\"resourceVersion\":\"" ++ (decimal revision ++ codes "\"")

-- the part also stands elsewhere in the text than behind this beginning
pub record HasOther (text part beginning : List ℕ) : Type 0 where
  pub before : List ℕ
  pub behind : List ℕ
  pub there : text ≡ before ++ (part ++ behind)
  pub elsewhere : before ≡ beginning → ⊥

-- a digit of ASCII
abbrev pub is_digit : ℕ → Bool
is_digit b = nat_le 48 b && nat_le b 57

-- a text without the digits that it begins with
abbrev pub past_digits : List ℕ → List ℕ
past_digits [] = []
past_digits (b ∷ bs) = if is_digit b then past_digits bs else b ∷ bs

-- two texts are the same but for the digits at the place where they first differ
abbrev pub is_near : List ℕ → List ℕ → Bool
is_near [] ys = bytes_eq [] (past_digits ys)
is_near (x ∷ xs) [] = bytes_eq (past_digits (x ∷ xs)) []
is_near (x ∷ xs) (y ∷ ys) = if x == y then is_near xs ys else bytes_eq (past_digits (x ∷ xs)) (past_digits (y ∷ ys))
