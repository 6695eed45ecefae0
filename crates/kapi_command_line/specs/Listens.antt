-- The ports that words of a command line specify, and the identities of their clients.
use Rattle.std.specs.Prelude.{ℕ, Bool, ◌==◌, nat_lt, if◌then◌else◌, List, [], ◌∷◌, length, Option, Some, None, option_and_then}
use Rattle.std.specs.List.{position_or_len, before_first, after_first}
use Rattle.kapi_lines.specs.Identities.{named_identity}
use Rattle.kapi_command_line.specs.Numbers.{number_of}
use Rattle.kapi_command_line.specs.declared.program.Listen.{Listen}

infixl 10 ◌>>=◌
-- a step after another, if there is a value
abbrev pub ◌>>=◌ : {A B : Type 0} → Option A → (A → Option B) → Option B
o >>= f = option_and_then f o

-- the texts before and behind the first = of a word, if it has one
abbrev pub parted : List ℕ → Option (List ℕ × List ℕ)
parted word =
    if nat_lt (position_or_len (λ b. b == 61) word) (length word) then Some (before_first (λ b. b == 61) word, after_first (λ b. b == 61) word)
    else None

-- the port and the identity that a word specifies, as `PORT=USER,GROUP,..`, where the port is 0 only for a free one
unfoldable pub listen_of : Bool → List ℕ → Option Listen
listen_of free word = do
  parts ← parted word
  port ← number_of 5 (if free then 0 else 1) 65535 parts.0
  identity ← named_identity parts.1
  Some (record { port = port; identity = identity })

-- what each word specifies, in the order of the words; none if one of the words specifies nothing
abbrev pub listens_of : Bool → List (List ℕ) → Option (List Listen)
listens_of free [] = Some []
listens_of free (word ∷ words) = do
  listen ← listen_of free word
  listens ← listens_of free words
  Some (listen ∷ listens)
