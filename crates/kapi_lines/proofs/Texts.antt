-- The text that bytes are.
use Rattle.std.proofs.Common.{◌≡◌, ℕ, Bool, true, false, List, Some, None, if◌then◌else◌, refl, ap}
use Rattle.std.specs.Str.{IsUtf8, is_utf8}
use Rattle.std.proofs.lemmas.Str.{IsUtf8-from_is_utf8, is_utf8-from_IsUtf8}

decided : (b : Bool) (P : Type 0) → (b ≡ true → P) → (P → ⊥) → b ≡ false
decided true P f n = absurd (n (f refl))
decided false P f n = refl

pub is_text : (text bytes : List ℕ) → text ≡ bytes → IsUtf8 bytes → Some text ≡ (if is_utf8 bytes then Some bytes else None)
is_text text bytes e h = rw (is_utf8-from_IsUtf8 bytes h) (ap Some e)

pub no_text : (bytes : List ℕ) → (IsUtf8 bytes → ⊥) → None ≡ (if is_utf8 bytes then Some bytes else None)
no_text bytes n = rw (decided (is_utf8 bytes) (IsUtf8 bytes) (IsUtf8-from_is_utf8 bytes) n) refl
