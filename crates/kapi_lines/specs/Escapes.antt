-- The text of bytes in a script: printable ASCII as itself, a backslash doubled, the rest escaped.
use Rattle.std.specs.Prelude.{ℕ, ◌+◌, ◌*◌, ◌/◌, ◌%◌, nat_le, ◌==◌, ◌&&◌, if◌then◌else◌, List, [], ◌∷◌, Option, Some, None}
use Rattle.std.specs.List.{flat_map}
use Rattle.std.specs.Char.{digit_char, digit_value, is_digit}
use Rattle.std.specs.Option.{option_map}
use Rattle.kapi_lines.specs.declared.escape.EscapeState.{EscapeState}
use Rattle.kapi_lines.specs.declared.escape.EscapeState.TheVariants.{Plain, Escape, HighDigit, LowDigit}
use Rattle.kapi_lines.specs.declared.escape.Effect.{Effect}
use Rattle.kapi_lines.specs.declared.escape.Effect.TheVariants.{Byte, To, Bad}

-- ---- writing

-- the text of a byte: `\\`, `\n`, `\r`, `\t`, itself, or `\x` and two hexadecimal digits
unfoldable pub escaped_byte : ℕ → List ℕ
escaped_byte b =
    if b == 92 then 92 ∷ 92 ∷ []
    else (if b == 10 then 92 ∷ 110 ∷ []
    else (if b == 13 then 92 ∷ 114 ∷ []
    else (if b == 9 then 92 ∷ 116 ∷ []
    else (if nat_le 32 b && nat_le b 126 then b ∷ []
    else 92 ∷ 120 ∷ digit_char (b / 16) ∷ digit_char (b % 16) ∷ []))))

-- a text, escaped
abbrev pub escaped : List ℕ → List ℕ
escaped bytes = flat_map escaped_byte bytes

-- ---- reading

-- the byte that a letter behind a backslash writes
unfoldable pub after_backslash : ℕ → Effect
after_backslash b =
    if b == 92 then Byte 92
    else (if b == 110 then Byte 10
    else (if b == 114 then Byte 13
    else (if b == 116 then Byte 9
    else (if b == 120 then To HighDigit else Bad))))

-- the byte that two hexadecimal digits of either case write
unfoldable pub by_digits : ℕ → ℕ → Effect
by_digits high low =
    if is_digit high 16 && is_digit low 16 then Byte (digit_value high * 16 + digit_value low) else Bad

-- what a byte of the text does
unfoldable pub read : EscapeState → ℕ → Effect
read Plain b = if b == 92 then To Escape else Byte b
read Escape b = after_backslash b
read HighDigit b = To (LowDigit b)
read (LowDigit high) b = by_digits high b

-- the bytes behind what a byte did
abbrev pub behind : Effect → (EscapeState → Option (List ℕ)) → Option (List ℕ)
behind (Byte b) rest = option_map (λ bytes. b ∷ bytes) (rest Plain)
behind (To place) rest = rest place
behind Bad rest = None

-- the bytes that a text writes, from a place on; none where a backslash begins no escape
unfoldable pub unescaped_from : EscapeState → List ℕ → Option (List ℕ)
unescaped_from Plain [] = Some []
unescaped_from Escape [] = None
unescaped_from HighDigit [] = None
unescaped_from (LowDigit high) [] = None
unescaped_from place (b ∷ bs) = behind (read place b) (λ next. unescaped_from next bs)

-- the text whose escaped form this is, if it is one
abbrev pub unescaped : List ℕ → Option (List ℕ)
unescaped text = unescaped_from Plain text
