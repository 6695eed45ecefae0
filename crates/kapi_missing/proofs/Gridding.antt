-- Places, rows and bits of a grid.
use Rattle.std.proofs.Common.{◌≡◌, ℕ, zero, suc, ◌+◌, ◌*◌, ◌/◌, ◌%◌, ◌^◌, ◌<◌, ◌≤◌, ◌==◌, nat_lt, Bool, true, false, ◌&&◌, ◌||◌, ◌⊎◌, inl, inr, List, [], ◌∷◌, ◌++◌, Some, length, map, get_or, take, length-take, subst, refl, ap, ap₂, sym, ◌∙◌, arith}
use Rattle.std.proofs.Math.Nat.{mul-le-mul_right}
use Rattle.std.proofs.lemmas.Bool.{and_from, and_parts, cases_eq, eq-eqb, eqb-true, lt-ltb, ltb-false, ltb-true}
use Rattle.std.proofs.lemmas.Bool.Decides.{nat_tests}
use Rattle.std.proofs.lemmas.List.{take_more}
use Rattle.std.proofs.lemmas.List.Folds.{list_all-append, list_any-append}
use lib.Bits.{bit_and}
use Rattle.std.specs.Int.{bit_at}
use Rattle.std.specs.Int.RustNames.{bit_or}
use Rattle.std.specs.List.{list_all, list_any}
use Rattle.kapi_text.proofs.Booleans.{by_truth, or_false}
use Rattle.kapi_rules.specs.declared.atom.Atom.{Atom}
use Rattle.kapi_missing.proofs.Counted.{listed_item}
use Rattle.kapi_missing.proofs.Entered.{items_push as parts_push}
use Rattle.kapi_missing.proofs.Words.{both_bits, either_bit, one_bit}
use Rattle.kapi_missing.specs.Private.Grid.{AreAmong, AreColumns, AreFew, AreGridColumns, ArePlaced, IsMarked, IsRowMarked, are_below, column_has, item_at, placed_items}
use Rattle.kapi_missing.specs.Private.Left.{Sees, atoms_behind, item, items_in, left}
use Rattle.kapi_missing.specs.Private.Numbers.{has_bit, has_number}
use Rattle.kapi_missing.specs.Private.Stoppers.{Item, Stopper, at, meets}
use Rattle.kapi_missing.specs.declared.grid.Column.{Column}
use Rattle.kapi_missing.specs.declared.grid.Columns.{Columns}
use Rattle.kapi_missing.specs.declared.grid.Placed.{Placed}
use Rattle.kapi_missing.specs.declared.rows.ListEntry.{ListEntry}

-- ---- places

pub item_within : (columns : List Column) (p : ℕ) (i : Item) → item_at columns p ≡ Some i → p < length columns
item_within [] p i is = absurd cc
item_within (c ∷ columns) zero i is = omega arith
item_within (c ∷ columns) (suc p) i is = let less = item_within columns p i is in omega (arith, less)

pub item_got : (columns : List Column) (k : ℕ) (c : Column) (i : Item) → k < length columns → c ≡ get_or columns k c → item c.part ≡ i → item_at columns k ≡ Some i
item_got [] k c i within is one = absurd (omega (arith, within))
item_got (x ∷ columns) zero c i within is one = ap Some (ap (λ (y : Column). item y.part) (sym is) ∙ one)
item_got (x ∷ columns) (suc k) c i within is one = item_got columns k c i (omega (arith, within)) is one

pub placed_at : (columns : List Column) (entries : List Placed) (k : ℕ) (e : Placed) → ArePlaced columns entries → k < length entries → e ≡ get_or entries k e
    → item_at columns e.place ≡ Some (item e.part)
placed_at columns [] k e are within is = absurd (omega (arith, within))
placed_at columns (x ∷ entries) zero e are within is = rw is are.0
placed_at columns (x ∷ entries) (suc k) e are within is = placed_at columns entries k e are.1 (omega (arith, within)) is

pub place_within : (columns : List Column) (entries : List Placed) (k : ℕ) (e : Placed) → ArePlaced columns entries → k < length entries → e ≡ get_or entries k e → e.place < length columns
place_within columns entries k e are within is = item_within columns e.place (item e.part) (placed_at columns entries k e are within is)

pub placed_push : (columns : List Column) (entries : List Placed) (e : Placed) → ArePlaced columns entries → item_at columns e.place ≡ Some (item e.part) → ArePlaced columns (entries ++ e ∷ [])
placed_push columns [] e are is = (is, tt)
placed_push columns (x ∷ entries) e are is = (are.0, placed_push columns entries e are.1 is)

items_push : (entries : List Placed) (e : Placed) → placed_items (entries ++ e ∷ []) ≡ placed_items entries ++ item e.part ∷ []
items_push [] e = refl
items_push (x ∷ entries) e = ap (λ r. item x.part ∷ r) (items_push entries e)

pub placed_parts : (entries new : List Placed) (e : Placed) (parts : List ListEntry) → new ≡ entries ++ e ∷ [] → placed_items entries ≡ items_in parts → placed_items new ≡ items_in (parts ++ e.part ∷ [])
placed_parts entries new e parts is were = ap placed_items is ∙ items_push entries e ∙ rw were (sym (parts_push parts e.part))

pub columns_push : (all : List Stopper) (columns : List Column) (c : Column) → AreColumns all columns → Sees all (meets (item c.part)) c.rules.items → AreColumns all (columns ++ c ∷ [])
columns_push all [] c are is = (is, tt)
columns_push all (x ∷ columns) c are is = (are.0, columns_push all columns c are.1 is)

pub column_met : (all : List Stopper) (columns : List Column) (p : ℕ) (i : Item) (n : ℕ) → AreColumns all columns → item_at columns p ≡ Some i → column_has columns p n ≡ at (map (meets i) all) n
column_met all [] p i n are is = absurd cc
column_met all (c ∷ columns) zero i n are is = let same : item c.part ≡ i = cc in are.0 n ∙ ap (λ j. at (map (meets j) all) n) same
column_met all (c ∷ columns) (suc p) i n are is = column_met all columns p i n are.1 is

zero_other : (p : ℕ) → (0 == suc p) ≡ false
zero_other p = grind (arith, nat_tests)

next_other : (k p : ℕ) → (suc k == suc p) ≡ (k == p)
next_other k p = grind (arith, nat_tests)

other_zero : (k : ℕ) → (suc k == 0) ≡ false
other_zero k = grind (arith, nat_tests)

next_column : (columns : List Column) (k : ℕ) (c : Column) (p n : ℕ) → k < length columns → c ≡ get_or columns k c
    → column_has (take (suc k) columns) p n ≡ (column_has (take k columns) p n || ((k == p) && has_bit c.rules.items n))
next_column [] k c p n within is = absurd (omega (arith, within))
next_column (x ∷ columns) zero c zero n within is = ap (λ (y : Column). has_bit y.rules.items n) (sym is)
next_column (x ∷ columns) zero c (suc p) n within is = rw (zero_other p) refl
next_column (x ∷ columns) (suc k) c zero n within is = rw (other_zero k) (sym (or_false (has_bit x.rules.items n)))
next_column (x ∷ columns) (suc k) c (suc p) n within is = rw (next_other k p) (next_column columns k c p n (omega (arith, within)) is)

pub column_more : (columns : List Column) (k : ℕ) (c : Column) (p n : ℕ) → k < length columns → c ≡ get_or columns k c
    → column_has (take (k + 1) columns) p n ≡ (column_has (take k columns) p n || ((k == p) && has_bit c.rules.items n))
column_more columns k c p n within is = let e : k + 1 ≡ suc k = omega arith in rw e (next_column columns k c p n within is)

take_whole : {X : Type 0} (xs : List X) (k : ℕ) → length xs ≤ k → take k xs ≡ xs
take_whole [] zero past = refl
take_whole [] (suc k) past = refl
take_whole (x ∷ xs) zero past = absurd (omega (arith, past))
take_whole (x ∷ xs) (suc k) past = ap (λ r. x ∷ r) (take_whole xs k (omega (arith, past)))

pub all_columns : (columns : List Column) (k p n : ℕ) (b : Bool) → length columns ≤ k → b ≡ column_has (take k columns) p n → b ≡ column_has columns p n
all_columns columns k p n b past is = is ∙ ap (λ cs. column_has cs p n) (take_whole columns k past)

-- ---- numbers

pub number_push : (list : List ℕ) (m x : ℕ) → has_number (list ++ m ∷ []) x ≡ (has_number list x || (m == x))
number_push list m x = list_any-append (λ n. n == x) list (m ∷ []) ∙ ap (λ b. has_number list x || b) (or_false (m == x))

pub next_number : (list : List ℕ) (k x : ℕ) → k < length list → has_number (take (k + 1) list) x ≡ (has_number (take k list) x || (get_or list k 0 == x))
next_number list k x within = ap (λ l. has_number l x) (take_more list k 0 within) ∙ number_push (take k list) (get_or list k 0) x

pub all_numbers : (list : List ℕ) (k : ℕ) → length list ≤ k → take k list ≡ list
all_numbers list k past = take_whole list k past

pub below_at : (b : ℕ) (list : List ℕ) (k : ℕ) → are_below b list ≡ true → k < length list → get_or list k 0 < b
below_at b [] k are within = absurd (omega (arith, within))
below_at b (x ∷ list) zero are within = ltb-true x b (and_parts (nat_lt x b) (are_below b list) are).0
below_at b (x ∷ list) (suc k) are within = below_at b list k (and_parts (nat_lt x b) (are_below b list) are).1 (omega (arith, within))

pub below_push : (b : ℕ) (list : List ℕ) (m : ℕ) → are_below b list ≡ true → nat_lt m b ≡ true → are_below b (list ++ m ∷ []) ≡ true
below_push b list m are is = list_all-append (λ n. nat_lt n b) list (m ∷ []) ∙ and_from (are_below b list) (nat_lt m b && true) are (and_from (nat_lt m b) true is refl)

-- a bound is a bound of every larger one
pub below_more : (a b : ℕ) (list : List ℕ) → a ≤ b → are_below a list ≡ true → are_below b list ≡ true
below_more a b [] le are = refl
below_more a b (x ∷ list) le are =
    let parts = and_parts (nat_lt x a) (are_below a list) are in
    let less = ltb-true x a parts.0 in
    and_from (nat_lt x b) (are_below b list) (lt-ltb x b (omega (arith, le, less))) (below_more a b list le parts.1)

and_true : (b : Bool) → (b && true) ≡ b
and_true true = refl
and_true false = refl

and_never : (b : Bool) → (b && false) ≡ false
and_never true = refl
and_never false = refl

-- the places of the first columns that have the number
abbrev pub AreMet : List Column → ℕ → ℕ → List ℕ → Type 0
AreMet columns k number places = ((p : ℕ) → has_number places p ≡ column_has (take k columns) p number) × (are_below (length columns) places ≡ true)

pub met_more : (columns : List Column) (k : ℕ) (c : Column) (number : ℕ) (places new : List ℕ) → k < length columns → c ≡ get_or columns k c → has_bit c.rules.items number ≡ true
    → new ≡ places ++ k ∷ [] → AreMet columns k number places → AreMet columns (k + 1) number new
met_more columns k c number places new within is has grown were = (
  λ p. ap (λ l. has_number l p) grown ∙ number_push places k p ∙ ap (λ b. b || (k == p)) (were.0 p)
      ∙ sym (column_more columns k c p number within is ∙ ap (λ b. column_has (take k columns) p number || ((k == p) && b)) has ∙ ap (λ b. column_has (take k columns) p number || b) (and_true (k == p))),
  rw grown (below_push (length columns) places k were.1 (lt-ltb k (length columns) within)),
)

pub met_none : (columns : List Column) (k : ℕ) (c : Column) (number : ℕ) (places : List ℕ) → k < length columns → c ≡ get_or columns k c → has_bit c.rules.items number ≡ false
    → AreMet columns k number places → AreMet columns (k + 1) number places
met_none columns k c number places within is has were = (
  λ p. were.0 p
      ∙ sym (column_more columns k c p number within is ∙ ap (λ b. column_has (take k columns) p number || ((k == p) && b)) has ∙ ap (λ b. column_has (take k columns) p number || b) (and_never (k == p))
      ∙ or_false (column_has (take k columns) p number)),
  were.1,
)

-- ---- rows

-- another row has other numbers
pub row_unique : (size r m p q : ℕ) → m < size → q < size → ((r * size + m) == (p * size + q)) ≡ ((r == p) && (m == q))
row_unique size r m p q small less = by_truth _ _ there back
  where
    apart : (x y a b : ℕ) → x < y → a < size → (x * size + a ≡ y * size + b → ⊥)
    apart x y a b below few same = let le = mul-le-mul_right size (lt-le x y below) in omega (arith, le, few, same)
      where
        lt-le : (x y : ℕ) → x < y → x + 1 ≤ y
        lt-le x y h = omega (arith, h)

    there : ((r * size + m) == (p * size + q)) ≡ true → ((r == p) && (m == q)) ≡ true
    there h = by_row (cases_eq r p)
      where
        same : r * size + m ≡ p * size + q
        same = eqb-true (r * size + m) (p * size + q) h

        by_row : (r ≡ p) ⊎ (r ≡ p → ⊥) → ((r == p) && (m == q)) ≡ true
        by_row (inl one) = and_from (r == p) (m == q) (eq-eqb r p one) (eq-eqb m q (let e : r * size ≡ p * size = ap (λ x. x * size) one in omega (arith, e, same)))
        by_row (inr other) = absurd (by_side (cases_lt r p))
          where
            cases_lt : (x y : ℕ) → (x < y) ⊎ (y ≤ x)
            cases_lt x y = by_test (nat_lt x y) refl
              where
                by_test : (t : Bool) → nat_lt x y ≡ t → (x < y) ⊎ (y ≤ x)
                by_test true is = inl (ltb-true x y is)
                by_test false is = inr (ltb-false x y is)

            by_side : (r < p) ⊎ (p ≤ r) → ⊥
            by_side (inl below) = apart r p m q below small same
            by_side (inr above) = apart p r q m (omega (arith, above, other)) less (sym same)

    back : ((r == p) && (m == q)) ≡ true → ((r * size + m) == (p * size + q)) ≡ true
    back h =
        let parts = and_parts (r == p) (m == q) h in
        eq-eqb (r * size + m) (p * size + q) (ap₂ (λ x y. x * size + y) (eqb-true r p parts.0) (eqb-true m q parts.1))

pub places_unique : (size r p q : ℕ) (places : List ℕ) → are_below size places ≡ true → q < size → list_any (λ m. (r * size + m) == (p * size + q)) places ≡ ((r == p) && has_number places q)
places_unique size r p q [] are less = sym (no_place (r == p))
  where
    no_place : (b : Bool) → (b && false) ≡ false
    no_place true = refl
    no_place false = refl
places_unique size r p q (m ∷ places) are less =
    let parts = and_parts (nat_lt m size) (are_below size places) are in
    rw (row_unique size r m p q (ltb-true m size parts.0) less, places_unique size r p q places parts.1 less) (joined (r == p) (m == q) (has_number places q))
  where
    joined : (a b c : Bool) → ((a && b) || (a && c)) ≡ (a && (b || c))
    joined true b c = refl
    joined false b c = refl

pub row_below : (size r m b : ℕ) → r < b → m < size → r * size + m < b * size
row_below size r m b below small = let le = mul-le-mul_right size (next r b below) in omega (arith, le, small)
  where
    next : (r b : ℕ) → r < b → r + 1 ≤ b
    next r b h = omega (arith, h)

pub places_below : (size r b : ℕ) (places : List ℕ) → r < b → are_below size places ≡ true → list_all (λ m. nat_lt (r * size + m) (b * size)) places ≡ true
places_below size r b [] below are = refl
places_below size r b (m ∷ places) below are =
    let parts = and_parts (nat_lt m size) (are_below size places) are in
    and_from (nat_lt (r * size + m) (b * size)) _ (lt-ltb (r * size + m) (b * size) (row_below size r m b below (ltb-true m size parts.0))) (places_below size r b places below parts.1)

pub rows_more : (old new a b r q : Bool) → new ≡ (old || (r && q)) → old ≡ (a && q) → b ≡ (a || r) → new ≡ (b && q)
rows_more old new a b r q added were is = added ∙ rw (were, is) (joined a r q)
  where
    joined : (a r q : Bool) → ((a && q) || (r && q)) ≡ ((a || r) && q)
    joined true true true = refl
    joined true true false = refl
    joined true false true = refl
    joined true false false = refl
    joined false r q = refl

-- ---- bits

pub small_bit : (place n : ℕ) → place < 64 → n < 64 → (bit_at (1 * 2 ^ place % 2 ^ 64) n == 1) ≡ (place == n)
small_bit place n below less =
    let e : place % 64 ≡ place = omega (arith, below) in
    let f : n % 64 ≡ n = omega (arith, less) in
    let g : n / 64 ≡ 0 = omega (arith, less) in
    let h : place / 64 ≡ 0 = omega (arith, below) in
    rw (e, f, g, h) at (one_bit place n)

pub bit_more : (bits place n : ℕ) → place < 64 → n < 64 → (bit_at (bit_or bits (1 * 2 ^ place % 2 ^ 64)) n == 1) ≡ ((bit_at bits n == 1) || (place == n))
bit_more bits place n below less = either_bit bits (1 * 2 ^ place % 2 ^ 64) n ∙ ap (λ b. (bit_at bits n == 1) || b) (small_bit place n below less)

among_or : (bits more : ℕ) (entries : List Placed) → AreAmong bits entries → AreAmong (bit_or bits more) entries
among_or bits more [] are = tt
among_or bits more (e ∷ entries) are = (either_bit bits more (e.place % 64) ∙ rw are.0 refl, among_or bits more entries are.1)

among_push : (bits : ℕ) (entries : List Placed) (e : Placed) → AreAmong bits entries → (bit_at bits (e.place % 64) == 1) ≡ true → AreAmong bits (entries ++ e ∷ [])
among_push bits [] e are is = (is, tt)
among_push bits (x ∷ entries) e are is = (are.0, among_push bits entries e are.1 is)

-- one place more
pub among_more : (bits : ℕ) (entries : List Placed) (k : ℕ) (e : Placed) → k < length entries → e ≡ get_or entries k e → AreAmong bits (take k entries)
    → AreAmong (bit_or bits (1 * 2 ^ (e.place % 64) % 2 ^ 64)) (take (k + 1) entries)
among_more bits entries k e within is are =
    subst (λ xs. AreAmong (bit_or bits (1 * 2 ^ (e.place % 64) % 2 ^ 64)) xs) (sym (take_more entries k e within ∙ ap (λ x. take k entries ++ x ∷ []) (sym is)))
    (among_push (bit_or bits (1 * 2 ^ (e.place % 64) % 2 ^ 64)) (take k entries) e (among_or bits (1 * 2 ^ (e.place % 64) % 2 ^ 64) (take k entries) are)
    (bit_more bits (e.place % 64) (e.place % 64) low low ∙ rw (eq-eqb (e.place % 64) (e.place % 64) refl) (or_true (bit_at bits (e.place % 64) == 1))))
  where
    low : e.place % 64 < 64
    low = omega arith

    or_true : (b : Bool) → (b || true) ≡ true
    or_true true = refl
    or_true false = refl

pub all_among : (bits : ℕ) (entries : List Placed) (k : ℕ) → length entries ≤ k → AreAmong bits (take k entries) → AreAmong bits entries
all_among bits entries k past are = subst (λ xs. AreAmong bits xs) (take_whole entries k past) are

-- a row with the bits of all the names leaves nothing
pub covered_names : (all : List Stopper) (test : Stopper → Bool) (columns : List Column) (word bits : ℕ) (names : List Placed) → length columns ≤ 64 → bit_and word bits ≡ bits
    → AreAmong bits names → ArePlaced columns names → IsRowMarked all test columns word → left all test (placed_items names ∷ []) ≡ []
covered_names all test columns word bits [] few whole among are marked = refl
covered_names all test columns word bits (e ∷ names) few whole among are marked = rw (met, covered_names all test columns word bits names few whole among.1 are.1 marked) refl
  where
    place : e.place % 64 ≡ e.place
    place = let less = item_within columns e.place (item e.part) are.0 in omega (arith, less, few)

    is_set : ((bit_at word (e.place % 64) == 1) && (bit_at bits (e.place % 64) == 1)) ≡ true
    is_set = sym (both_bits word bits (e.place % 64)) ∙ ap (λ w. bit_at w (e.place % 64) == 1) whole ∙ among.0

    met : list_any (λ s. test s && meets (item e.part) s) all ≡ true
    met =
        sym (marked e.place (item e.part) are.0) ∙ ap (λ p. bit_at word p == 1) (sym place)
        ∙ (and_parts (bit_at word (e.place % 64) == 1) (bit_at bits (e.place % 64) == 1) is_set).0

-- ---- marks

-- a bit of one row
row_bit : (marks : List ℕ) (row n : ℕ) → n < 64 → has_bit marks (row * 64 + n) ≡ (bit_at (get_or marks row 0) n == 1)
row_bit marks row n less =
    let e : (row * 64 + n) / 64 ≡ row = omega (arith, less) in
    let f : (row * 64 + n) % 64 ≡ n = omega (arith, less) in
    ap₂ (λ x y. bit_at (get_or marks x 0) y == 1) e f

pub row_marked : (marks new rows : List ℕ) (names row n : ℕ) → n < 64
    → ((m : ℕ) → has_bit new m ≡ (has_bit marks m || (has_number rows (m / 64) && (bit_at names (m % 64) == 1))))
    → (bit_at (get_or new row 0) n == 1) ≡ ((bit_at (get_or marks row 0) n == 1) || (has_number rows row && (bit_at names n == 1)))
row_marked marks new rows names row n less are =
    let e : (row * 64 + n) / 64 ≡ row = omega (arith, less) in
    let f : (row * 64 + n) % 64 ≡ n = omega (arith, less) in
    sym (row_bit new row n less) ∙ are (row * 64 + n) ∙ ap₂ (λ x y. x || y) (row_bit marks row n less) (ap₂ (λ x y. has_number rows x && (bit_at names y == 1)) e f)

at_split : (f : Stopper → Bool) (before others : List Stopper) (s : Stopper) → at (map f (before ++ s ∷ others)) (length before) ≡ f s
at_split f [] others s = refl
at_split f (x ∷ before) others s = at_split f before others s

-- the bits of one rule more
pub marked_more : (before others : List Stopper) (s : Stopper) (columns : Columns) (marks new rows : List ℕ) (names number : ℕ) → number ≡ length before → AreFew columns
    → AreGridColumns (before ++ s ∷ others) columns
    → ((m : ℕ) → has_bit new m ≡ (has_bit marks m || (has_number rows (m / 64) && (bit_at names (m % 64) == 1))))
    → ((g r v : ℕ) → r < length columns.resources.items → v < length columns.verbs.items
    → has_number rows ((g * length columns.resources.items + r) * length columns.verbs.items + v)
    ≡ ((column_has columns.groups.items g number && column_has columns.resources.items r number) && column_has columns.verbs.items v number))
    → ((n : ℕ) → n < 64 → (bit_at names n == 1) ≡ column_has columns.names.items n number)
    → IsMarked before columns marks → IsMarked (before ++ s ∷ []) columns new
marked_more before others s columns marks new rows names number is few are bits of_rows of_names were g a isa r b isb v c isc n d isd =
    row_marked marks new rows names row n small bits
    ∙ rw (
      of_rows g r v (item_within columns.resources.items r b isb) (item_within columns.verbs.items v c isc),
      of_names n small,
      met columns.groups.items g a are.groups isa,
      met columns.resources.items r b are.resources isb,
      met columns.verbs.items v c are.verbs isc,
      met columns.names.items n d are.names isd,
    )
    (ap (λ t. t || (((meets a s && meets b s) && meets c s) && meets d s)) (were g a isa r b isb v c isc n d isd)
    ∙ ap (λ t. list_any test before || t) (sym (or_false (test s))) ∙ sym (list_any-append test before (s ∷ [])))
  where
    row : ℕ
    row = (g * length columns.resources.items + r) * length columns.verbs.items + v

    test : Stopper → Bool
    test t = (((true && meets a t) && meets b t) && meets c t) && meets d t

    small : n < 64
    small = let less = item_within columns.names.items n d isd in let le = few.names in omega (arith, less, le)

    met : (list : List Column) (p : ℕ) (i : Item) → AreColumns (before ++ s ∷ others) list → item_at list p ≡ Some i → column_has list p number ≡ meets i s
    met list p i have at_p = column_met (before ++ s ∷ others) list p i number have at_p ∙ ap (at (map (meets i) (before ++ s ∷ others))) is ∙ at_split (meets i) before others s

pub area_rows : (groups resources verbs : List Column) (gs rs vs one two gs_now rs_now vs_now one_now : List ℕ) (r_size v_size number g r v : ℕ)
    → r_size ≡ length resources → v_size ≡ length verbs → gs_now ≡ gs → rs_now ≡ rs → vs_now ≡ vs → one_now ≡ one
    → r < length resources → v < length verbs
    → ((p q : ℕ) → q < r_size → has_number one (p * r_size + q) ≡ (has_number gs_now p && has_number rs_now q))
    → ((p q : ℕ) → q < v_size → has_number two (p * v_size + q) ≡ (has_number one_now p && has_number vs_now q))
    → ((p : ℕ) → has_number gs p ≡ column_has groups p number) → ((p : ℕ) → has_number rs p ≡ column_has resources p number) → ((p : ℕ) → has_number vs p ≡ column_has verbs p number)
    → has_number two ((g * length resources + r) * length verbs + v) ≡ ((column_has groups g number && column_has resources r number) && column_has verbs v number)
area_rows groups resources verbs gs rs vs one two gs_now rs_now vs_now one_now r_size v_size number g r v r_is v_is gs_is rs_is vs_is one_is r_within v_within first second of_groups of_resources of_verbs =
    rw (← r_is, ← v_is)
    (second (g * r_size + r) v (rw v_is v_within)
    ∙ ap₂ (λ x y. x && y)
    (ap (λ l. has_number l (g * r_size + r)) one_is ∙ first g r (rw r_is r_within)
    ∙ ap₂ (λ x y. x && y) (ap (λ l. has_number l g) gs_is ∙ of_groups g) (ap (λ l. has_number l r) rs_is ∙ of_resources r))
    (ap (λ l. has_number l v) vs_is ∙ of_verbs v))

pub area_bound : (marks g_size r_size v_size g r v : ℕ) (rows : List ℕ) → marks ≡ g * r * v → g_size ≡ g → r_size ≡ r → v_size ≡ v → are_below (g_size * r_size * v_size) rows ≡ true
    → are_below marks rows ≡ true
area_bound marks g_size r_size v_size g r v rows long g_is r_is v_is below =
    ap (λ b. are_below b rows) (long ∙ sym (ap₂ (λ x y. x * y) (ap₂ (λ x y. x * y) g_is r_is) v_is)) ∙ below

-- the rules that meet the entry of a column
pub column_sees : (all : List Stopper) (i : Item) (everyone near : List ℕ) (row : ℕ → Bool) → ((n : ℕ) → has_bit near n ≡ (has_bit everyone n && row n))
    → ((n : ℕ) → row n ≡ at (map (meets i) all) n) → Sees all (λ s. true) everyone → Sees all (meets i) near
column_sees all i everyone near row is met sees n = is n ∙ rw (sees n, met n) (both all n)
  where
    both : (xs : List Stopper) (m : ℕ) → (at (map (λ s. true) xs) m && at (map (meets i) xs) m) ≡ at (map (meets i) xs) m
    both [] m = refl
    both (x ∷ xs) zero = refl
    both (x ∷ xs) (suc m) = both xs m

split_at : (all : List Stopper) (n : ℕ) → n < length all → (s : Stopper) × ((others : List Stopper) × ((all ≡ take n all ++ s ∷ others) × (take (suc n) all ≡ take n all ++ s ∷ [])))
split_at [] n within = absurd (omega (arith, within))
split_at (x ∷ all) zero within = (x, (all, (refl, refl)))
split_at (x ∷ all) (suc n) within = let r = split_at all n (omega (arith, within)) in (r.0, (r.1.0, (ap (λ l. x ∷ l) r.1.1.0, ap (λ l. x ∷ l) r.1.1.1)))

-- the bits of the next of the rules
pub taken_marked : (all : List Stopper) (number : ℕ) (old new : Columns) (marks more : List ℕ) → number < length all
    → ((before others : List Stopper) (s : Stopper) → number ≡ length before → AreGridColumns (before ++ s ∷ others) old → IsMarked before old marks → IsMarked (before ++ s ∷ []) new more)
    → AreGridColumns all old → IsMarked (take number all) old marks → IsMarked (take (number + 1) all) new more
taken_marked all number old new marks more within leads are were =
    let split = split_at all number within in
    let e : number + 1 ≡ suc number = omega arith in
    rw e
    (subst (λ rules. IsMarked rules new more) (sym split.1.1.1)
    (leads (take number all) split.1.0 split.0 (sym (length-take number all ∙ omega (arith, within))) (subst (λ rules. AreGridColumns rules old) split.1.1.0 are) were))

pub none_marked : (columns : Columns) (marks : List ℕ) → AreFew columns → ((n : ℕ) → has_bit marks n ≡ false) → IsMarked [] columns marks
none_marked columns marks few none g a isa r b isb v c isc n d isd =
    let less = item_within columns.names.items n d isd in
    let le = few.names in
    sym (row_bit marks ((g * length columns.resources.items + r) * length columns.verbs.items + v) n (omega (arith, less, le)))
    ∙ none (((g * length columns.resources.items + r) * length columns.verbs.items + v) * 64 + n)

pub no_groups : (all : List Stopper) (columns : Columns) (marks : List ℕ) → length columns.groups.items ≡ 0 → IsMarked all columns marks
no_groups all columns marks none g a isa r b isb v c isc n d isd = absurd (let less = item_within columns.groups.items g a isa in omega (arith, less, none))

-- ---- what is listed

next_placed : (entries : List Placed) (k : ℕ) (e : Placed) → k < length entries → e ≡ get_or entries k e → placed_items (take (k + 1) entries) ≡ placed_items (take k entries) ++ item e.part ∷ []
next_placed entries k e within is = ap placed_items (take_more entries k e within ∙ ap (λ x. take k entries ++ x ∷ []) (sym is)) ∙ items_push (take k entries) e

pub placed_more : (all : List Stopper) (test : Stopper → Bool) (lists : List (List Item)) (entries : List Placed) (k : ℕ) (e : Placed) (chosen : List Item) (before now more : List Atom)
    → k < length entries → e ≡ get_or entries k e → now ≡ before ++ atoms_behind chosen (left all test (placed_items (take k entries) ∷ lists))
    → more ≡ now ++ atoms_behind (chosen ++ item e.part ∷ []) (left all (λ s. test s && meets (item e.part) s) lists)
    → more ≡ before ++ atoms_behind chosen (left all test (placed_items (take (k + 1) entries) ∷ lists))
placed_more all test lists entries k e chosen before now more within is were grown =
    rw (next_placed entries k e within is) (listed_item all test lists (placed_items (take k entries)) (item e.part) chosen before now more were grown)

pub all_placed : (entries : List Placed) (k : ℕ) → length entries ≤ k → placed_items (take k entries) ≡ placed_items entries
all_placed entries k past = ap placed_items (take_whole entries k past)
