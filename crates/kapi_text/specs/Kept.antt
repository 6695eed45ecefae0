-- The bytes of a text, wherever they lie.
use Rattle.std.specs.Prelude.{ℕ, List, string_bytes}
use Rattle.kapi_text.specs.declared.text.Kept.{Kept}
use Rattle.kapi_text.specs.declared.text.Kept.TheVariants.{Inside, Outside}

-- the bytes that lie in the value, or those of the string
abbrev pub kept_bytes : Kept → List ℕ
kept_bytes (Inside text) = text.bytes
kept_bytes (Outside text) = string_bytes text
