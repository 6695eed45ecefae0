-- In a table that fits, a resource has one resource type.
use Rattle.std.proofs.Common.{◌≡◌, ℕ, Bool, true, false, not, ◌&&◌, ◌||◌, List, [], ◌∷◌, refl, sym, ap, ◌∙◌}
use Rattle.std.proofs.lemmas.Bool.{or_parts, and_parts, not-true}
use Rattle.std.proofs.lemmas.Slice.Eq.{bytes_eq-Decides}
use Rattle.std.specs.Bool.{beq}
use Rattle.std.specs.List.{list_any}
use Rattle.std.specs.Str.{bytes_eq}
use Rattle.kapi_model.specs.declared.row.ResourceRow.{ResourceRow}
use Rattle.kapi_core.specs.Table.{has_row, is_like, is_row, rows_differ}

-- a namespaced resource type of that group and plural
abbrev tells : List ℕ → List ℕ → ResourceRow → Bool
tells group plural row = bytes_eq row.group group && (bytes_eq row.plural plural && row.namespaced)

-- ---- tests

last_false : (a b c : Bool) → c ≡ false → (a && (b && c)) ≡ false
last_false true true c h = h
last_false true false c h = refl
last_false false b c h = refl

same : (a b : List ℕ) → bytes_eq a b ≡ true → a ≡ b
same a b e = (bytes_eq-Decides a b).0 e

-- texts are compared and_parts ways
turned : (a b : List ℕ) → bytes_eq a b ≡ bytes_eq b a
turned a b = by_case (bytes_eq a b) refl
  where
    by_case : (t : Bool) → bytes_eq a b ≡ t → bytes_eq a b ≡ bytes_eq b a
    by_case true e = let is : a ≡ b = same a b e in rw is refl
    by_case false e = by_other (bytes_eq b a) refl
      where
        by_other : (t : Bool) → bytes_eq b a ≡ t → bytes_eq a b ≡ bytes_eq b a
        by_other true f = let is : b ≡ a = same b a f in rw is refl
        by_other false f = e ∙ sym f

-- of two resource types that are not alike one is not of the other's group and plural
unlike : (a b c d : Bool) → (a && (b || c)) ≡ false → (a && (b && d)) ≡ false
unlike true true c d h = absurd (cc h)
unlike true false c d h = refl
unlike false b c d h = refl

not_told : (row other : ResourceRow) → is_like row other ≡ false → tells row.group row.plural other ≡ false
not_told row other h =
    unlike (bytes_eq other.group row.group) (bytes_eq other.plural row.plural) (bytes_eq row.kind other.kind) other.namespaced
    (ap (λ b. b && (bytes_eq other.plural row.plural || bytes_eq row.kind other.kind)) (turned other.group row.group)
    ∙ ap (λ b. bytes_eq row.group other.group && (b || bytes_eq row.kind other.kind)) (turned other.plural row.plural)
    ∙ h)

-- no resource type behind others that are unlike it is found by its group and plural
none_told : (row : ResourceRow) (later : List ResourceRow) → list_any (λ other. is_like row other) later ≡ false
    → list_any (tells row.group row.plural) later ≡ false
none_told row [] h = refl
none_told row (other ∷ later) h =
    let parts = or_parts (is_like row other) (list_any (λ o. is_like row o) later) h in
    rw (not_told row other parts.0) (none_told row later parts.1)

-- ---- rows that are the same

record Same (a b : ResourceRow) : Type 0 where
  group : a.group ≡ b.group
  plural : a.plural ≡ b.plural
  namespaced : a.namespaced ≡ b.namespaced

same_bool : (a b : Bool) → beq a b ≡ true → a ≡ b
same_bool true true h = refl
same_bool true false h = absurd (cc h)
same_bool false true h = absurd (cc h)
same_bool false false h = refl

row_is : (a b : ResourceRow) → is_row a b ≡ true → Same a b
unfolding is_row
row_is a b h =
    let group = and_parts (bytes_eq a.group b.group) _ h in
    let version = and_parts (bytes_eq a.version b.version) _ group.1 in
    let plural = and_parts (bytes_eq a.plural b.plural) _ version.1 in
    let kind = and_parts (bytes_eq a.kind b.kind) _ plural.1 in
    let form = and_parts (beq a.namespaced b.namespaced) _ kind.1 in
    record {
      group = same a.group b.group group.0;
      plural = same a.plural b.plural plural.0;
      namespaced = same_bool a.namespaced b.namespaced form.0;
    }

-- a resource type is not found by the group and plural of a later one, if it is unlike all later ones
first_not_told : (r row : ResourceRow) (later : List ResourceRow) → has_row later r ≡ true → list_any (λ other. is_like row other) later ≡ false
    → tells r.group r.plural row ≡ false
first_not_told r row [] has none = absurd (cc has)
first_not_told r row (other ∷ later) has none =
    by_case (is_row r other) refl
    (λ more. first_not_told r row later more (or_parts (is_like row other) (list_any (λ o. is_like row o) later) none).1)
  where
    parts : (is_like row other ≡ false) × (list_any (λ o. is_like row o) later ≡ false)
    parts = or_parts (is_like row other) (list_any (λ o. is_like row o) later) none

    by_case : (t : Bool) → is_row r other ≡ t → (has_row later r ≡ true → tells r.group r.plural row ≡ false) → tells r.group r.plural row ≡ false
    by_case true e behind =
        let is = row_is r other e in
        rw (is.group, is.plural)
        (unlike (bytes_eq row.group other.group) (bytes_eq row.plural other.plural) (bytes_eq row.kind other.kind) row.namespaced parts.0)
    by_case false e behind = behind (rw e at has)

-- a resource type that is in no namespace is its resource's only one
pub stands_alone : (r : ResourceRow) (table : List ResourceRow) → r.namespaced ≡ false → has_row table r ≡ true → rows_differ table ≡ true
    → list_any (tells r.group r.plural) table ≡ false
unfolding rows_differ
stands_alone r [] global has differ = absurd (cc has)
stands_alone r (row ∷ later) global has differ =
    by_case (is_row r row) refl
    (λ more. stands_alone r later global more (and_parts (not (list_any (λ other. is_like row other) later)) (rows_differ later) differ).1)
  where
    parts : (not (list_any (λ other. is_like row other) later) ≡ true) × (rows_differ later ≡ true)
    parts = and_parts (not (list_any (λ other. is_like row other) later)) (rows_differ later) differ

    none : list_any (λ other. is_like row other) later ≡ false
    none = not-true (list_any (λ other. is_like row other) later) parts.0

    by_case : (t : Bool) → is_row r row ≡ t → (has_row later r ≡ true → list_any (tells r.group r.plural) later ≡ false)
        → list_any (tells r.group r.plural) (row ∷ later) ≡ false
    by_case true e behind =
        let is = row_is r row e in
        let here : tells r.group r.plural row ≡ false =
        last_false (bytes_eq row.group r.group) (bytes_eq row.plural r.plural) row.namespaced (sym is.namespaced ∙ global) in
        let there : list_any (tells r.group r.plural) later ≡ false = rw (is.group, is.plural) (none_told row later none) in
        rw here there
    by_case false e behind =
        let more : has_row later r ≡ true = rw e at has in
        rw (first_not_told r row later more none) (behind more)
