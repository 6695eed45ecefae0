-- What is counted, and what is listed, of the lists of a wanted rule.
use Rattle.std.proofs.Common.{◌≡◌, ℕ, zero, suc, ◌+◌, ◌<◌, ◌≤◌, Bool, true, false, ◌&&◌, List, [], ◌∷◌, ◌++◌, length, map, get_or, take, refl, ap, sym, ◌∙◌, append_assoc, append-nil, arith}
use Rattle.std.proofs.lemmas.Bool.{and_from, and_parts}
use Rattle.std.proofs.lemmas.Grind.{flat_map-append}
use Rattle.std.proofs.lemmas.List.{take_more}
use Rattle.std.specs.List.{flat_map, list_all, list_any}
use Rattle.kapi_rules.proofs.Law.{any_weaker}
use Rattle.kapi_rules.specs.declared.atom.Atom.{Atom}
use Rattle.kapi_missing.proofs.Entered.{items_push}
use Rattle.kapi_missing.proofs.Meets.{at_and_front, at_same, at_some, some_at}
use Rattle.kapi_missing.specs.Private.Left.{AreClasses, AreRows, IsCounted, IsRow, Sees, atoms_behind, atoms_of, entries_in, item, items_in, left, meets_every}
use Rattle.kapi_missing.specs.Private.Numbers.{has_bit, some_has}
use Rattle.kapi_missing.specs.Private.Stoppers.{Item, Stopper, at, meets}
use Rattle.kapi_missing.specs.declared.rows.ListEntry.{ListEntry}
use Rattle.kapi_missing.specs.declared.tree.Class.{Class}
use Rattle.kapi_missing.specs.declared.tree.Entry.{Entry}
use Rattle.kapi_missing.specs.declared.tree.Level.{Level}

-- ---- one element of a list

pub row_at : (all : List Stopper) (entries : List Entry) (i : ℕ) (e : Entry) → AreRows all entries → i < length entries → e ≡ get_or entries i e → IsRow all (item e.part) e.row.items
row_at all [] i e are within is = absurd (omega (arith, within))
row_at all (x ∷ entries) zero e are within is = rw is are.0
row_at all (x ∷ entries) (suc i) e are within is = row_at all entries i e are.1 (omega (arith, within)) is

pub class_at : (all : List Stopper) (lists : List (List Item)) (classes : List Class) (i : ℕ) (c : Class) → AreClasses all lists classes → i < length classes → c ≡ get_or classes i c
    → IsCounted all lists c.rules.items c.left
class_at all lists [] i c are within is = absurd (omega (arith, within))
class_at all lists (x ∷ classes) zero c are within is = rw is are.0
class_at all lists (x ∷ classes) (suc i) c are within is = class_at all lists classes i c are.1 (omega (arith, within)) is

pub more_classes : (all : List Stopper) (lists : List (List Item)) (classes : List Class) (c : Class) → AreClasses all lists classes → IsCounted all lists c.rules.items c.left
    → AreClasses all lists (classes ++ c ∷ [])
more_classes all lists [] c are counted = (counted, tt)
more_classes all lists (x ∷ classes) c are counted = (are.0, more_classes all lists classes c are.1 counted)

pub more_rows : (all : List Stopper) (entries : List Entry) (e : Entry) → AreRows all entries → IsRow all (item e.part) e.row.items → AreRows all (entries ++ e ∷ [])
more_rows all [] e are is = (is, tt)
more_rows all (x ∷ entries) e are is = (are.0, more_rows all entries e are.1 is)

entries_push : (entries : List Entry) (e : Entry) → entries_in (entries ++ e ∷ []) ≡ entries_in entries ++ item e.part ∷ []
entries_push [] e = refl
entries_push (x ∷ entries) e = ap (λ r. item x.part ∷ r) (entries_push entries e)

pub next_entries : (entries : List Entry) (i : ℕ) (e : Entry) → i < length entries → e ≡ get_or entries i e → entries_in (take (i + 1) entries) ≡ entries_in (take i entries) ++ item e.part ∷ []
next_entries entries i e within is =
    ap entries_in (take_more entries i e within ∙ ap (λ x. take i entries ++ x ∷ []) (sym is)) ∙ entries_push (take i entries) e

-- ---- sets of rules

pub narrowed : (all others : List Stopper) (test : Stopper → Bool) (i : Item) (rules near : List ℕ) (row : ℕ → Bool) → ((n : ℕ) → has_bit near n ≡ (has_bit rules n && row n))
    → ((n : ℕ) → row n ≡ at (map (meets i) (all ++ others)) n) → Sees all test rules → Sees all (λ s. test s && meets i s) near
narrowed all others test i rules near row is met sees n = is n ∙ rw (sees n, met n) (at_and_front test (meets i) all others n)

all_push : (s : Stopper) (items : List Item) (i : Item) → list_all (λ j. meets j s) (items ++ i ∷ []) ≡ (list_all (λ j. meets j s) items && meets i s)
all_push s [] i = by_case (meets i s)
  where
    by_case : (t : Bool) → (t && true) ≡ t
    by_case true = refl
    by_case false = refl
all_push s (j ∷ items) i = by_case (meets j s) (all_push s items i)
  where
    by_case : (t : Bool) → list_all (λ j. meets j s) (items ++ i ∷ []) ≡ (list_all (λ j. meets j s) items && meets i s)
        → (t && list_all (λ j. meets j s) (items ++ i ∷ [])) ≡ ((t && list_all (λ j. meets j s) items) && meets i s)
    by_case true more = more
    by_case false more = refl

and_assoc : (a b c : Bool) → ((a && b) && c) ≡ (a && (b && c))
and_assoc true b c = refl
and_assoc false b c = refl

-- the rules that meet one entry more
pub full_more : (all others : List Stopper) (test : Stopper → Bool) (items : List Item) (i : Item) (full near : List ℕ) (row : ℕ → Bool)
    → ((n : ℕ) → has_bit near n ≡ (has_bit full n && row n)) → ((n : ℕ) → row n ≡ at (map (meets i) (all ++ others)) n)
    → Sees all (λ s. test s && list_all (λ j. meets j s) items) full → Sees all (λ s. test s && list_all (λ j. meets j s) (items ++ i ∷ [])) near
full_more all others test items i full near row is met sees n =
    narrowed all others (λ s. test s && list_all (λ j. meets j s) items) i full near row is met sees n
    ∙ at_same _ _ (λ s. and_assoc (test s) (list_all (λ j. meets j s) items) (meets i s) ∙ ap (λ (b : Bool). test s && b) (sym (all_push s items i))) all n

-- ---- a rule that meets every entry stops all

covered_by : (all : List Stopper) (test : Stopper → Bool) (lists : List (List Item)) → list_any (λ s. test s && meets_every lists s) all ≡ true → left all test lists ≡ []
covered_by all test [] some = rw (any_weaker (λ s. test s && true) test all (λ s h. (and_parts (test s) true h).0) some) refl
covered_by all test (items ∷ lists) some = each (λ t. covered_by all t lists) items some
  where
    each : ((t : Stopper → Bool) → list_any (λ s. t s && meets_every lists s) all ≡ true → left all t lists ≡ [])
        → (items : List Item) → list_any (λ s. test s && (meets_every lists s && list_all (λ i. meets i s) items)) all ≡ true
        → flat_map (λ i. map (λ c. i ∷ c) (left all (λ s. test s && meets i s) lists)) items ≡ []
    each each_less [] some = refl
    each each_less (i ∷ items) some =
        rw (each_less (λ s. test s && meets i s) (any_weaker _ (λ s. (test s && meets i s) && meets_every lists s) all first some), each each_less items (any_weaker _ _ all rest some)) refl
      where
        first : (s : Stopper) → (test s && (meets_every lists s && (meets i s && list_all (λ j. meets j s) items))) ≡ true → ((test s && meets i s) && meets_every lists s) ≡ true
        first s h =
            let p = and_parts (test s) (meets_every lists s && (meets i s && list_all (λ j. meets j s) items)) h in
            let q = and_parts (meets_every lists s) (meets i s && list_all (λ j. meets j s) items) p.1 in
            let r = and_parts (meets i s) (list_all (λ j. meets j s) items) q.1 in
            and_from (test s && meets i s) (meets_every lists s) (and_from (test s) (meets i s) p.0 r.0) q.0

        rest : (s : Stopper) → (test s && (meets_every lists s && (meets i s && list_all (λ j. meets j s) items))) ≡ true
            → (test s && (meets_every lists s && list_all (λ j. meets j s) items)) ≡ true
        rest s h =
            let p = and_parts (test s) (meets_every lists s && (meets i s && list_all (λ j. meets j s) items)) h in
            let q = and_parts (meets_every lists s) (meets i s && list_all (λ j. meets j s) items) p.1 in
            let r = and_parts (meets i s) (list_all (λ j. meets j s) items) q.1 in
            and_from (test s) (meets_every lists s && list_all (λ j. meets j s) items) p.0 (and_from (meets_every lists s) (list_all (λ j. meets j s) items) q.0 r.1)

pub covered : (all : List Stopper) (test : Stopper → Bool) (lists : List (List Item)) (rules full : List ℕ) (n : ℕ) → Sees all test rules → Sees all (meets_every lists) full
    → (has_bit rules n && has_bit full n) ≡ true → left all test lists ≡ []
covered all test lists rules full n sees whole shared =
    covered_by all test lists (at_some (λ s. test s && meets_every lists s) all n (sym (both ∙ at_and all) ∙ shared))
  where
    both : (has_bit rules n && has_bit full n) ≡ (at (map test all) n && at (map (meets_every lists) all) n)
    both = rw (sees n, whole n) refl

    at_and : (xs : List Stopper) → (at (map test xs) n && at (map (meets_every lists) xs) n) ≡ at (map (λ s. test s && meets_every lists s) xs) n
    at_and xs = ap (λ ys. at (map test xs) n && at (map (meets_every lists) ys) n) (sym (append-nil xs)) ∙ at_and_front test (meets_every lists) xs [] n

-- ---- an entry more

pub left_push : (all : List Stopper) (test : Stopper → Bool) (lists : List (List Item)) (items : List Item) (i : Item)
    → left all test ((items ++ i ∷ []) ∷ lists) ≡ left all test (items ∷ lists) ++ map (λ c. i ∷ c) (left all (λ s. test s && meets i s) lists)
left_push all test lists items i =
    flat_map-append (λ j. map (λ c. j ∷ c) (left all (λ s. test s && meets j s) lists)) items (i ∷ [])
    ∙ ap (λ r. left all test (items ∷ lists) ++ r) (append-nil (map (λ c. i ∷ c) (left all (λ s. test s && meets i s) lists)))

-- an entry whose rules have been counted too
pub counted_more : (all others : List Stopper) (lists : List (List Item)) (entries : List Entry) (k : ℕ) (e : Entry) (rules near : List ℕ) (total below sum : ℕ)
    → (sum ≡ 0 → (total ≡ 0) × (below ≡ 0)) → k < length entries → e ≡ get_or entries k e → AreRows (all ++ others) entries
    → ((n : ℕ) → has_bit near n ≡ (has_bit rules n && some_has e.row.items n)) → IsCounted all lists near below
    → IsCounted all (entries_in (take k entries) ∷ lists) rules total → IsCounted all (entries_in (take (k + 1) entries) ∷ lists) rules sum
counted_more all others lists entries k e rules near total below sum both within is are near_is counted were none test sees =
    rw (next_entries entries k e within is)
    (left_push all test lists (entries_in (take k entries)) (item e.part) ∙ rw (
      were (both none).0 test sees,
      counted (both none).1 (λ s. test s && meets (item e.part) s) (narrowed all others test (item e.part) rules near (some_has e.row.items) near_is (row_at (all ++ others) entries k e are within is) sees),
    ) refl)

-- an entry of the last list
some_meets : (all others : List Stopper) (test : Stopper → Bool) (i : Item) (rules : List ℕ) (row : ℕ → Bool) → ((n : ℕ) → row n ≡ at (map (meets i) (all ++ others)) n)
    → Sees all test rules → (n : ℕ) → (has_bit rules n && row n) ≡ at (map (λ s. test s && meets i s) all) n
some_meets all others test i rules row met sees n = rw (sees n, met n) (at_and_front test (meets i) all others n)

pub is_met : (all others : List Stopper) (test : Stopper → Bool) (e : Entry) (rules : List ℕ) (n : ℕ) → IsRow (all ++ others) (item e.part) e.row.items → Sees all test rules
    → (has_bit rules n && some_has e.row.items n) ≡ true → list_any (λ s. test s && meets (item e.part) s) all ≡ true
is_met all others test e rules n met sees shared = at_some _ all n (sym (some_meets all others test (item e.part) rules (some_has e.row.items) met sees n) ∙ shared)

pub is_unmet : (all others : List Stopper) (test : Stopper → Bool) (e : Entry) (rules : List ℕ) → IsRow (all ++ others) (item e.part) e.row.items → Sees all test rules
    → ((n : ℕ) → (has_bit rules n && some_has e.row.items n) ≡ false) → list_any (λ s. test s && meets (item e.part) s) all ≡ false
is_unmet all others test e rules met sees none = by_case (list_any (λ s. test s && meets (item e.part) s) all) refl
  where
    by_case : (t : Bool) → list_any (λ s. test s && meets (item e.part) s) all ≡ t → list_any (λ s. test s && meets (item e.part) s) all ≡ false
    by_case false is = is
    by_case true is =
        let found = some_at (λ s. test s && meets (item e.part) s) all is in
        absurd (let never = sym (some_meets all others test (item e.part) rules (some_has e.row.items) met sees found.0 ∙ found.1) ∙ none found.0 in cc)

-- what is met of the last list leaves nothing
pub last_met : (all : List Stopper) (test : Stopper → Bool) (entries : List Entry) (k : ℕ) (e : Entry) → k < length entries → e ≡ get_or entries k e
    → list_any (λ s. test s && meets (item e.part) s) all ≡ true → left all test (entries_in (take (k + 1) entries) ∷ []) ≡ left all test (entries_in (take k entries) ∷ [])
last_met all test entries k e within is met =
    rw (next_entries entries k e within is) (left_push all test [] (entries_in (take k entries)) (item e.part) ∙ rw met (append-nil (left all test (entries_in (take k entries) ∷ []))))

pub last_unmet : (all : List Stopper) (test : Stopper → Bool) (entries : List Entry) (k : ℕ) (e : Entry) → k < length entries → e ≡ get_or entries k e
    → list_any (λ s. test s && meets (item e.part) s) all ≡ false
    → left all test (entries_in (take (k + 1) entries) ∷ []) ≡ left all test (entries_in (take k entries) ∷ []) ++ (item e.part ∷ []) ∷ []
last_unmet all test entries k e within is unmet =
    rw (next_entries entries k e within is) (left_push all test [] (entries_in (take k entries)) (item e.part) ∙ rw unmet refl)

-- ---- what is listed

flat_of_map : {X Y Z : Type 0} (f : Y → List Z) (g : X → Y) (xs : List X) → flat_map f (map g xs) ≡ flat_map (λ x. f (g x)) xs
flat_of_map f g [] = refl
flat_of_map f g (x ∷ xs) = ap (λ r. f (g x) ++ r) (flat_of_map f g xs)

flat_same : {X Z : Type 0} (f g : X → List Z) → ((x : X) → f x ≡ g x) → (xs : List X) → flat_map f xs ≡ flat_map g xs
flat_same f g same [] = refl
flat_same f g same (x ∷ xs) = rw (same x, flat_same f g same xs) refl

pub below_entry : (chosen : List Item) (i : Item) (choices : List (List Item)) → atoms_behind chosen (map (λ c. i ∷ c) choices) ≡ atoms_behind (chosen ++ i ∷ []) choices
below_entry chosen i choices =
    flat_of_map (λ c. atoms_of (chosen ++ c)) (λ c. i ∷ c) choices ∙ flat_same _ _ (λ c. ap atoms_of (sym (append_assoc chosen (i ∷ []) c))) choices

pub listed_item : (all : List Stopper) (test : Stopper → Bool) (lists : List (List Item)) (items : List Item) (i : Item) (chosen : List Item) (before now more : List Atom)
    → now ≡ before ++ atoms_behind chosen (left all test (items ∷ lists))
    → more ≡ now ++ atoms_behind (chosen ++ i ∷ []) (left all (λ s. test s && meets i s) lists)
    → more ≡ before ++ atoms_behind chosen (left all test ((items ++ i ∷ []) ∷ lists))
listed_item all test lists items i chosen before now more were grown =
    grown ∙ ap (λ r. r ++ atoms_behind (chosen ++ i ∷ []) below) were ∙ append_assoc before (atoms_behind chosen rest) (atoms_behind (chosen ++ i ∷ []) below)
    ∙ ap (λ r. before ++ r) (ap (λ r. atoms_behind chosen rest ++ r) (sym (below_entry chosen i below))
    ∙ sym (flat_map-append (λ c. atoms_of (chosen ++ c)) rest (map (λ c. i ∷ c) below))
    ∙ ap (atoms_behind chosen) (sym (left_push all test lists items i)))
  where
    rest : List (List Item)
    rest = left all test (items ∷ lists)

    below : List (List Item)
    below = left all (λ s. test s && meets i s) lists

pub listed_more : (all others : List Stopper) (test : Stopper → Bool) (lists : List (List Item)) (entries : List Entry) (k : ℕ) (e : Entry) (chosen : List Item) (before now more : List Atom)
    → k < length entries → e ≡ get_or entries k e → now ≡ before ++ atoms_behind chosen (left all test (entries_in (take k entries) ∷ lists))
    → more ≡ now ++ atoms_behind (chosen ++ item e.part ∷ []) (left all (λ s. test s && meets (item e.part) s) lists)
    → more ≡ before ++ atoms_behind chosen (left all test (entries_in (take (k + 1) entries) ∷ lists))
listed_more all others test lists entries k e chosen before now more within is were grown =
    rw (next_entries entries k e within is) (listed_item all test lists (entries_in (take k entries)) (item e.part) chosen before now more were grown)

pub take_all : {X : Type 0} (xs : List X) (k : ℕ) → length xs ≤ k → take k xs ≡ xs
take_all [] zero past = refl
take_all [] (suc k) past = refl
take_all (x ∷ xs) zero past = absurd (omega (arith, past))
take_all (x ∷ xs) (suc k) past = ap (λ r. x ∷ r) (take_all xs k (omega (arith, past)))

pub all_entries : (entries : List Entry) (k : ℕ) → length entries ≤ k → entries_in (take k entries) ≡ entries_in entries
all_entries entries k past = ap entries_in (take_all entries k past)

pub entered : (entries more : List Entry) (e : Entry) (parts : List ListEntry) → more ≡ entries ++ e ∷ [] → entries_in entries ≡ items_in parts → entries_in more ≡ items_in (parts ++ e.part ∷ [])
entered entries more e parts is were = ap entries_in is ∙ entries_push entries e ∙ rw were (sym (items_push parts e.part))

-- the atom of an entry of the last list
pub met_none : (all : List Stopper) (test : Stopper → Bool) (i : Item) (chosen : List Item) (list : List Atom) → list_any (λ s. test s && meets i s) all ≡ true
    → list ≡ list ++ atoms_behind (chosen ++ i ∷ []) (left all (λ s. test s && meets i s) [])
met_none all test i chosen list met = rw met (sym (append-nil list))

pub unmet_one : (all : List Stopper) (test : Stopper → Bool) (i : Item) (chosen : List Item) (list more : List Atom) → list_any (λ s. test s && meets i s) all ≡ false
    → more ≡ list ++ atoms_of (chosen ++ i ∷ []) → more ≡ list ++ atoms_behind (chosen ++ i ∷ []) (left all (λ s. test s && meets i s) [])
unmet_one all test i chosen list more unmet grown =
    rw unmet (grown ∙ ap (λ r. list ++ r) (ap atoms_of (sym (append-nil (chosen ++ i ∷ []))) ∙ sym (append-nil (atoms_of ((chosen ++ i ∷ []) ++ [])))))

pub none_left : (chosen : List Item) (choices : List (List Item)) (list : List Atom) → choices ≡ [] → list ≡ list ++ atoms_behind chosen choices
none_left chosen choices list none = rw none (sym (append-nil list))

pub no_levels : (levels : List Level) → length levels ≡ 0 → levels ≡ []
no_levels [] none = refl
no_levels (l ∷ levels) none = absurd (let never : suc (length levels) ≡ 0 = none in cc)
