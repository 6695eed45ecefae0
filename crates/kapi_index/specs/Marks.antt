-- Marks of words: they tell most words that are not in a list, without a look at the list.
use Rattle.std.specs.Prelude.{◌≡◌, ℕ, ◌+◌, ◌*◌, ◌%◌, true, List, [], ◌∷◌, length}
use Rattle.std.specs.Int.{bit_at}
use Rattle.std.specs.List.{list_any}
use Rattle.std.specs.Str.{bytes_eq}

-- the last byte of a text, or the given one if it is empty
abbrev pub last_byte : ℕ → List ℕ → ℕ
last_byte b [] = b
last_byte b (c ∷ text) = last_byte c text

-- where a word is marked that has so many bytes after its first one: a number below 64
unfoldable pub mixed : ℕ → ℕ → ℕ → ℕ
mixed after first last = (after % 64 + 3 * first + 5 * last) % 64

-- where a word is marked
abbrev pub place_of : List ℕ → ℕ
place_of [] = 0
place_of (b ∷ text) = mixed (length text) b (last_byte b text)

-- each of the words is marked
abbrev pub AreMarked : ℕ → List (List ℕ) → Type 0
AreMarked marks words = (w : List ℕ) → list_any (λ x. bytes_eq x w) words ≡ true → bit_at marks (place_of w) ≡ 1
