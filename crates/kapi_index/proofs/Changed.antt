-- Names under keys, one of which is changed.
use Rattle.std.proofs.Common.{◌≡◌, ℕ, ◌==◌, Bool, true, false, cond, not, ◌&&◌, ◌||◌, List, [], ◌∷◌, ◌++◌, length, Option, Some, None, Result, Ok, Err, refl, sym, ap, subst, ◌∙◌}
use Rattle.std.specs.BTreeMap.{is_at}
use Rattle.std.proofs.lemmas.Bool.{eqb-true}
use Rattle.std.proofs.lemmas.List.{nil_from_length}
use Rattle.std.proofs.lemmas.List.Folds.{list_any-append}
use Rattle.std.specs.Map.{lookup}
use Rattle.std.specs.Option.{unwrap_or}
use Rattle.std.specs.Prelude.{OnErr, OnOk}
use Rattle.std.specs.Str.{bytes_eq}
use Rattle.std.proofs.lemmas.Map.Text.{is_eq-slice_cmp}
use Rattle.std.proofs.lemmas.Slice.Eq.{bytes_eq-Decides}
use Rattle.kapi_policy.specs.Objects.{name_cmp}
use Rattle.kapi_text.proofs.Booleans.{and_false, and_true}
use Rattle.kapi_index.proofs.Finds.{at_itself}
use Rattle.kapi_index.specs.Listed.{Adds, AreSame, HasAt, Removes, has_name, is_key, is_listed, names_at}

abbrev pub Sets : Type 0
Sets = List (List ℕ × List (List ℕ))

-- the key has those names, and each other key those that it had
abbrev pub Puts : List ℕ → Option (List (List ℕ)) → Sets → Sets → Type 0
Puts key names old new = (q : List ℕ) → lookup (is_at (name_cmp q)) new ≡ cond (is_at (name_cmp key) q) names (lookup (is_at (name_cmp q)) old)

pub map_ok : {T E : Type 0} (r : Result T E) (P Q : Type 0) → (P → Q) → OnOk r P → OnOk r Q
map_ok (Ok x) P Q f h = f h
map_ok (Err e) P Q f h = tt

pub map_err : {T E : Type 0} (r : Result T E) (P Q : Type 0) → (P → Q) → OnErr r P → OnErr r Q
map_err (Ok x) P Q f h = tt
map_err (Err e) P Q f h = f h

-- what is said of the names at a key, if it is that one and where it is another
by_key : (key : List ℕ) (names : Option (List (List ℕ))) (old new : Sets) → Puts key names old new → (P : List (List ℕ) → Bool → Type 0) (k : List ℕ)
    → (k ≡ key → P (unwrap_or names []) true) → P (names_at old k) false → P (names_at new k) (bytes_eq key k)
by_key key names old new puts P k here there = by_test (bytes_eq key k) refl
  where
    by_test : (b : Bool) → bytes_eq key k ≡ b → P (names_at new k) (bytes_eq key k)
    by_test true is = rw (puts k, is_eq-slice_cmp key k, is) (here (sym ((bytes_eq-Decides key k).0 is)))
    by_test false is = rw (puts k, is_eq-slice_cmp key k, is) there

pub adds_at : (key name : List ℕ) (names : List (List ℕ)) (old new : Sets) → Puts key (Some names) old new
    → ((n : List ℕ) → is_listed n names ≡ (bytes_eq name n || is_listed n (names_at old key))) → Adds (key ∷ []) name old new
adds_at key name names old new puts has = λ k n.
    by_key key (Some names) old new puts (λ l b. is_listed n l ≡ (((b || false) && bytes_eq name n) || has_name old k n)) k
    (λ same. rw same (has n)) refl

pub removes_at : (key name : List ℕ) (names : Option (List (List ℕ))) (old new : Sets) → Puts key names old new
    → ((n : List ℕ) → is_listed n (unwrap_or names []) ≡ (is_listed n (names_at old key) && not (bytes_eq name n))) → Removes (key ∷ []) [] name old new
removes_at key name names old new puts has = λ k n.
    by_key key names old new puts (λ l b. is_listed n l ≡ (has_name old k n && not (((b || false) && true) && bytes_eq name n))) k
    (λ same. rw same (has n)) (sym (and_true (has_name old k n)))

pub same_at : (key : List ℕ) (names : List (List ℕ)) (old new : Sets) → Puts key (Some names) old new → names ≡ names_at old key → AreSame old new
same_at key names old new puts same = λ k n.
    by_key key (Some names) old new puts (λ l b. is_listed n l ≡ has_name old k n) k (λ at. rw at (ap (is_listed n) same)) refl

-- ==== more
abbrev pub HasPut : List ℕ → List (List ℕ) → List (List ℕ) → Type 0
HasPut name before after = (n : List ℕ) → is_listed n after ≡ (bytes_eq name n || is_listed n before)

pub adds_fresh : (key copied name : List ℕ) (names empty : List (List ℕ)) (old new : Sets) → copied ≡ key → empty ≡ [] → names_at old key ≡ []
    → Puts copied (Some names) old new → HasPut name empty names → Adds (key ∷ []) name old new
adds_fresh key copied name names empty old new same none absent puts has =
    adds_at key name names old new (subst (λ k. Puts k (Some names) old new) same puts)
    (λ n. has n ∙ ap (λ l. bytes_eq name n || is_listed n l) (none ∙ sym absent))

found_at : (key : List ℕ) (names : List (List ℕ)) (old : Sets) → Some names ≡ lookup (is_at (name_cmp key)) old → names ≡ names_at old key
found_at key names old found = ap (λ o. unwrap_or o []) found

pub adds_found : (key own name : List ℕ) (names after : List (List ℕ)) (old new : Sets) → own ≡ name → Some names ≡ lookup (is_at (name_cmp key)) old
    → Puts key (Some after) old new → HasPut own names after → Adds (key ∷ []) name old new
adds_found key own name names after old new same found puts has =
    subst (λ n. Adds (key ∷ []) n old new) same
    (adds_at key own after old new puts (λ n. has n ∙ ap (λ l. bytes_eq own n || is_listed n l) (found_at key names old found)))

pub same_found : (key : List ℕ) (names after : List (List ℕ)) (old new : Sets) → Some names ≡ lookup (is_at (name_cmp key)) old
    → Puts key (Some after) old new → after ≡ names → AreSame old new
same_found key names after old new found puts same = same_at key after old new puts (same ∙ found_at key names old found)

pub removes_found : (key name : List ℕ) (names after : List (List ℕ)) (old new : Sets) → Some names ≡ lookup (is_at (name_cmp key)) old
    → Puts key (Some after) old new → ((n : List ℕ) → is_listed n after ≡ (is_listed n names && not (bytes_eq name n))) → Removes (key ∷ []) [] name old new
removes_found key name names after old new found puts gone =
    removes_at key name (Some after) old new puts (λ n. gone n ∙ ap (λ l. is_listed n l && not (bytes_eq name n)) (found_at key names old found))

-- where the key has no name nothing is taken out
pub removes_nothing : (key name : List ℕ) (old new : Sets) → old ≡ new → None ≡ lookup (is_at (name_cmp key)) old → Removes (key ∷ []) [] name old new
removes_nothing key name old new same none = λ k n. rw (sym same) (by_test k n (bytes_eq key k) refl)
  where
    by_test : (k n : List ℕ) (b : Bool) → bytes_eq key k ≡ b → has_name old k n ≡ (has_name old k n && not (((bytes_eq key k || false) && true) && bytes_eq name n))
    by_test k n true is = let at : key ≡ k = (bytes_eq-Decides key k).0 is in rw (sym at, sym none) refl
    by_test k n false is = rw is (sym (and_true (has_name old k n)))

pub names_under : (key : List ℕ) (after : List (List ℕ)) (old new : Sets) → Puts key (Some after) old new → names_at new key ≡ after
names_under key after old new puts = ap (λ o. unwrap_or o []) (puts key ∙ ap (λ b. cond b (Some after) (lookup (is_at (name_cmp key)) old)) (at_itself key))

-- a key without names may go
pub removes_onward : (key name : List ℕ) (old mid new : Sets) → Removes (key ∷ []) [] name old mid → (length (names_at mid key) == 0) ≡ true → Puts key None mid new
    → Removes (key ∷ []) [] name old new
removes_onward key name old mid new gone empty puts = λ k n.
    by_key key None mid new puts (λ l b. is_listed n l ≡ is_listed n (names_at mid k)) k (λ same. rw (same, none) refl) refl ∙ gone k n
  where
    none : names_at mid key ≡ []
    none = nil_from_length (names_at mid key) (eqb-true (length (names_at mid key)) 0 empty)

-- ---- several keys

out_of_both : (o a b t e : Bool) → ((o && not ((a && t) && e)) && not ((b && t) && e)) ≡ (o && not (((a || b) && t) && e))
out_of_both false a b t e = refl
out_of_both true true true true true = refl
out_of_both true true true true false = refl
out_of_both true true true false e = refl
out_of_both true true false t e = and_true (not (t && e))
out_of_both true false b t e = refl

pub removes_more : (xs : List (List ℕ)) (key : List ℕ) (kept : List (List ℕ)) (name : List ℕ) (old mid new : Sets)
    → Removes xs kept name old mid → Removes (key ∷ []) kept name mid new → Removes (xs ++ key ∷ []) kept name old new
removes_more xs key kept name old mid new first more = λ k n.
    more k n
    ∙ ap (λ b. b && not (((bytes_eq key k || false) && not (is_key k kept)) && bytes_eq name n)) (first k n)
    ∙ out_of_both (has_name old k n) (is_key k xs) (bytes_eq key k || false) (not (is_key k kept)) (bytes_eq name n)
    ∙ ap (λ b. has_name old k n && not ((b && not (is_key k kept)) && bytes_eq name n)) (sym (list_any-append (λ x. bytes_eq x k) xs (key ∷ [])))

pub removes_none : (kept : List (List ℕ)) (name : List ℕ) (old : Sets) → Removes [] kept name old old
removes_none kept name old = λ k n. sym (and_true (has_name old k n))

-- a key that is kept keeps the name
pub removes_kept : (key : List ℕ) (kept : List (List ℕ)) (name : List ℕ) (old : Sets) → is_key key kept ≡ true → Removes (key ∷ []) kept name old old
removes_kept key kept name old is_kept = λ k n. by_test k n (bytes_eq key k) refl
  where
    by_test : (k n : List ℕ) (b : Bool) → bytes_eq key k ≡ b → has_name old k n ≡ (has_name old k n && not (((bytes_eq key k || false) && not (is_key k kept)) && bytes_eq name n))
    by_test k n true is = let at : key ≡ k = (bytes_eq-Decides key k).0 is in rw (is, sym at, is_kept) (sym (and_true (has_name old key n)))
    by_test k n false is = rw is (sym (and_true (has_name old k n)))

pub removes_unkept : (key : List ℕ) (kept : List (List ℕ)) (name : List ℕ) (old new : Sets) → is_key key kept ≡ false → Removes (key ∷ []) [] name old new → Removes (key ∷ []) kept name old new
removes_unkept key kept name old new unkept gone = λ k n. gone k n ∙ by_test k n (bytes_eq key k) refl
  where
    by_test : (k n : List ℕ) (b : Bool) → bytes_eq key k ≡ b
        → (has_name old k n && not (((bytes_eq key k || false) && true) && bytes_eq name n)) ≡ (has_name old k n && not (((bytes_eq key k || false) && not (is_key k kept)) && bytes_eq name n))
    by_test k n true is = let at : key ≡ k = (bytes_eq-Decides key k).0 is in rw (is, sym at, unkept) refl
    by_test k n false is = rw is refl

in_both : (a b e o : Bool) → ((b && e) || ((a && e) || o)) ≡ (((a || b) && e) || o)
in_both true true true o = refl
in_both true true false o = refl
in_both true false e o = refl
in_both false true e o = refl
in_both false false e o = refl

pub adds_more : (xs : List (List ℕ)) (key name : List ℕ) (old mid new : Sets) → Adds xs name old mid → Adds (key ∷ []) name mid new → Adds (xs ++ key ∷ []) name old new
adds_more xs key name old mid new first more = λ k n.
    more k n
    ∙ ap (λ b. ((bytes_eq key k || false) && bytes_eq name n) || b) (first k n)
    ∙ in_both (is_key k xs) (bytes_eq key k || false) (bytes_eq name n) (has_name old k n)
    ∙ ap (λ b. (b && bytes_eq name n) || has_name old k n) (sym (list_any-append (λ x. bytes_eq x k) xs (key ∷ [])))

-- what was put under some of the keys and then taken out under all but those that had it is as before
back : (t a b e o : Bool) → (a ≡ true → b ≡ true) → (e ≡ true → o ≡ t) → (((a && e) || o) && not ((b && not t) && e)) ≡ o
back t true b true o front had = rw (front refl, had refl) (by_kept t)
  where
    by_kept : (t : Bool) → not (not t && true) ≡ t
    by_kept true = refl
    by_kept false = refl
back t false b true o front had = rw (had refl) (by_kept t b)
  where
    by_kept : (t b : Bool) → (t && not ((b && not t) && true)) ≡ t
    by_kept true true = refl
    by_kept true false = refl
    by_kept false b = refl
back t true b false o front had = ap (λ x. o && not x) (and_false (b && not t)) ∙ and_true o
back t false b false o front had = ap (λ x. o && not x) (and_false (b && not t)) ∙ and_true o

pub taken_back : (xs ys keys kept : List (List ℕ)) (name : List ℕ) (old first mid new : Sets) → xs ++ ys ≡ keys → HasAt kept name old
    → Adds xs name old first → AreSame first mid → Removes keys kept name mid new → AreSame old new
taken_back xs ys keys kept name old first mid new whole had adds same gone = λ k n.
    gone k n
    ∙ ap (λ b. b && not ((is_key k keys && not (is_key k kept)) && bytes_eq name n)) (same k n ∙ adds k n)
    ∙ back (is_key k kept) (is_key k xs) (is_key k keys) (bytes_eq name n) (has_name old k n)
    (λ is. ap (is_key k) (sym whole) ∙ list_any-append (λ x. bytes_eq x k) xs ys ∙ rw is refl)
    (λ is. let at : name ≡ n = (bytes_eq-Decides name n).0 is in rw (sym at) (had k))
