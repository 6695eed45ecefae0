-- The first resource type of each name.
use Rattle.std.specs.Prelude.{◌≡◌, ℕ, false, if◌then◌else◌, List, take, length, Option, Some}
use Rattle.std.specs.BTreeMap.{BTreeMap, get}
use Rattle.std.specs.Cmp.Lexicographic.{slice_cmp}
use Rattle.std.specs.List.{list_any}
use Rattle.std.specs.Option.{unwrap_or}
use Rattle.std.specs.Ordering.{nat_cmp}
use Rattle.std.specs.Str.{bytes_eq}
use Rattle.kapi_model.specs.declared.row.ResourceRow.{ResourceRow}

abbrev pub first_at : BTreeMap (List ℕ) ℕ → List ℕ → Option ℕ
first_at first plural = get (slice_cmp nat_cmp) first plural

-- the name has a position: this one, unless it had one
abbrev pub StartsAlso : BTreeMap (List ℕ) ℕ → BTreeMap (List ℕ) ℕ → List ℕ → ℕ → Type 0
StartsAlso old new plural position =
    (p : List ℕ) → first_at new p ≡ (if bytes_eq plural p then Some (unwrap_or (first_at old p) position) else first_at old p)

-- among so many rows none is of the name before its position, and none at all if it has no position
abbrev pub AreFirstOf : BTreeMap (List ℕ) ℕ → List ResourceRow → ℕ → Type 0
AreFirstOf first rows n = (p : List ℕ) → list_any (λ r. bytes_eq r.plural p) (take (unwrap_or (first_at first p) n) rows) ≡ false

abbrev pub AreFirst : BTreeMap (List ℕ) ℕ → List ResourceRow → Type 0
AreFirst first rows = AreFirstOf first rows (length rows)
