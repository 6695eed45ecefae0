-- The JSON object that bytes are.
use Rattle.std.proofs.Common.{◌≡◌, ℕ, List, Bool, true, false, if◌then◌else◌, Some, None, is_some, refl}
use Rattle.std.specs.Str.{IsUtf8, is_utf8}
use Rattle.std.proofs.lemmas.Str.{IsUtf8-from_is_utf8, is_utf8-from_IsUtf8}
use Rattle.serde_json.specs.Data.{Data, object}
use Rattle.serde_json.specs.Find.{as_object}
use Rattle.serde_json.specs.Read.{read}
use Rattle.kapi_object.specs.Tree.{json_object}
use Rattle.std.specs.Option.{option_map, option_and_then}

object_only : (d : Data) → is_some (as_object d) ≡ true → option_map object (as_object d) ≡ Some d
object_only (object ms) h = refl
object_only _ h = cc

-- what was read is the JSON object that the bytes are, if it is an object
pub json_object_read : (text : List ℕ) (d : Data) → IsUtf8 text → read text ≡ Some d → is_some (as_object d) ≡ true → json_object text ≡ Some d
unfolding json_object
json_object_read text d u r o = rw (is_utf8-from_IsUtf8 text u, r) (object_only d o)

-- bytes are no JSON object if they are not UTF-8 or nothing was read of them
pub json_object_none : (text : List ℕ) → (IsUtf8 text → read text ≡ None) → json_object text ≡ None
unfolding json_object
json_object_none text h =
    let P : Bool → Type 0 = λ b. (b ≡ true → read text ≡ None) → (if b then option_map object (option_and_then as_object (read text)) else None) ≡ None in
    let cases : P (is_utf8 text) = elim (is_utf8 text) as P [ true ↦ λ k. rw (k refl) refl | false ↦ λ k. refl ] in
    cases (λ e. h (IsUtf8-from_is_utf8 text e))
