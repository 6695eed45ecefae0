-- Rows that join a table, some after others.
use Rattle.std.proofs.Common.{◌≡◌, ◌∙◌, ◌++◌, Bool, true, false, not, ◌&&◌, ◌||◌, List, [], ◌∷◌, refl, ap, ap₂}
use Rattle.std.specs.List.{list_any}
use Rattle.std.proofs.lemmas.List.Folds.{list_any-append}
use Rattle.kapi_model.specs.declared.row.ResourceRow.{ResourceRow}
use Rattle.kapi_core.specs.Table.{is_like, rows_differ}
use Rattle.kapi_kinds.specs.Tables.{is_joined}

-- one of the rows is like one of the table
abbrev pub clash : List ResourceRow → List ResourceRow → Bool
clash table rows = list_any (λ row. list_any (λ other. is_like other row) table) rows

-- ---- tests

exchanged : (a b c d : Bool) → ((a || b) || (c || d)) ≡ ((a || c) || (b || d))
exchanged true b c d = refl
exchanged false true true d = refl
exchanged false true false d = refl
exchanged false false c d = refl

apart : (a b c r s : Bool) → (not (a || b) && (r && (s && not c))) ≡ ((not a && r) && (s && not (b || c)))
apart true b c r s = refl
apart false false c r s = refl
apart false true c true true = refl
apart false true c true false = refl
apart false true c false s = refl

parted : (r s x y z : Bool) → ((r && (s && not x)) && not (y || z)) ≡ ((r && not y) && (s && not (z || x)))
parted false s x y z = refl
parted true s x true z = all_false s x
  where
    all_false : (s x : Bool) → ((s && not x) && false) ≡ false
    all_false false x = refl
    all_false true true = refl
    all_false true false = refl
parted true false x false z = refl
parted true true true false true = refl
parted true true true false false = refl
parted true true false false true = refl
parted true true false false false = refl

-- ---- rows that are alike

any_either : {X : Type 0} (p q : X → Bool) (xs : List X) → list_any (λ x. p x || q x) xs ≡ (list_any p xs || list_any q xs)
any_either p q [] = refl
any_either p q (x ∷ xs) = ap (λ b. (p x || q x) || b) (any_either p q xs) ∙ exchanged (p x) (q x) (list_any p xs) (list_any q xs)

none_clashes : (rows : List ResourceRow) → clash [] rows ≡ false
none_clashes [] = refl
none_clashes (row ∷ rows) = none_clashes rows

clash_either : (table more rows : List ResourceRow) → clash (table ++ more) rows ≡ (clash table rows || clash more rows)
clash_either table more [] = refl
clash_either table more (row ∷ rows) =
    ap₂ (λ a b. a || b) (list_any-append (λ other. is_like other row) table more) (clash_either table more rows)
    ∙ exchanged (list_any (λ other. is_like other row) table) (list_any (λ other. is_like other row) more) (clash table rows) (clash more rows)

pub differ_joined : (table rows : List ResourceRow) → rows_differ (table ++ rows) ≡ (rows_differ table && is_joined table rows)
unfolding rows_differ
differ_joined [] rows = rw (none_clashes rows) (and_true (rows_differ rows))
  where
    and_true : (b : Bool) → b ≡ (true && (b && true))
    and_true true = refl
    and_true false = refl
differ_joined (row ∷ table) rows =
    ap₂ (λ a b. not a && b) (list_any-append (λ other. is_like row other) table rows) (differ_joined table rows)
    ∙ apart (list_any (λ other. is_like row other) table) (list_any (λ other. is_like row other) rows) (clash table rows) (rows_differ table) (rows_differ rows)
    ∙ ap (λ b. (not (list_any (λ other. is_like row other) table) && rows_differ table) && (rows_differ rows && not b)) (swapped rows)
  where
    swapped : (rows : List ResourceRow) → (list_any (λ other. is_like row other) rows || clash table rows) ≡ clash (row ∷ table) rows
    swapped [] = refl
    swapped (r ∷ rs) =
        exchanged (is_like row r) (list_any (λ other. is_like row other) rs) (list_any (λ other. is_like other r) table) (clash table rs)
        ∙ ap (λ b. (is_like row r || list_any (λ other. is_like other r) table) || b) (swapped rs)

pub joined_more : (table rows more : List ResourceRow) → is_joined table (rows ++ more) ≡ (is_joined table rows && is_joined (table ++ rows) more)
joined_more table rows more =
    ap₂ (λ a b. a && not b) (differ_joined rows more) (list_any-append (λ row. list_any (λ other. is_like other row) table) rows more)
    ∙ parted (rows_differ rows) (rows_differ more) (clash rows more) (clash table rows) (clash table more)
    ∙ ap (λ b. is_joined table rows && (rows_differ more && not b)) (back (clash_either table rows more))
  where
    back : {a b : Bool} → a ≡ b → b ≡ a
    back e = rw e refl

pub none_joined : (table : List ResourceRow) → is_joined table [] ≡ true
unfolding rows_differ
none_joined table = refl
