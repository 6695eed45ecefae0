-- Keys that are looked for by their order and by their bytes.
use Rattle.std.proofs.Common.{◌≡◌, ℕ, List, [], ◌∷◌, refl}
use Rattle.std.specs.BTreeMap.{is_at}
use Rattle.std.specs.Map.{lookup}
use Rattle.std.specs.Ordering.{nat_cmp}
use Rattle.std.specs.Str.{bytes_eq}
use Rattle.std.specs.Cmp.Lexicographic.{slice_cmp}
use Rattle.std.proofs.lemmas.Map.Text.{is_eq-slice_cmp}

-- what is found at a name
pub lookup_name : {X : Type 0} (name : List ℕ) (es : List (List ℕ × X)) → lookup (is_at (slice_cmp nat_cmp name)) es ≡ lookup (bytes_eq name) es
lookup_name name [] = refl
lookup_name name (e ∷ es) = rw (is_eq-slice_cmp name e.0, lookup_name name es) refl
