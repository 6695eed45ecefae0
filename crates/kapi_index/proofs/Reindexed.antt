-- The index after a change of one binding.
use Rattle.std.proofs.Common.{◌≡◌, ℕ, Bool, true, false, cond, not, ◌&&◌, ◌||◌, List, [], ◌∷◌, Option, Some, None, Result, Ok, Err, refl, sym, ap, ◌∙◌}
use Rattle.std.specs.BTreeMap.{insert_entry, is_at}
use Rattle.std.specs.List.Sorted.{IsStrictlySortedBy}
use Rattle.std.specs.Map.{keys_of, lookup, remove_entry}
use Rattle.std.specs.Ordering.{match_ordering}
use Rattle.std.specs.Prelude.{OnErr, OnOk}
use Rattle.std.specs.Str.{bytes_eq}
use Rattle.std.specs.declared.cmp.Ordering.TheVariants.{Less, Equal, Greater}
use Rattle.std.proofs.lemmas.Map.Text.{is_eq-slice_cmp}
use Rattle.std.proofs.lemmas.Slice.Eq.{bytes_eq-Decides}
use Rattle.kapi_policy.proofs.Sets.{delete_sets, put_sets}
use Rattle.kapi_policy.specs.Objects.{name_cmp}
use Rattle.kapi_text.proofs.Booleans.{and_false, and_true, turned}
use Rattle.kapi_index.proofs.Changed.{Sets}
use Rattle.kapi_index.proofs.Finds.{name_total}
use Rattle.kapi_index.specs.Listed.{Adds, AreOrdered, AreSame, HasAt, Removes, has_name, is_key}
use Rattle.kapi_index.specs.Scopes.{ArePrepared, IsExact, IsIndex, IsPrepared, Scoped, bare, group_keys, keys_in, user_keys}
use Rattle.kapi_index.specs.declared.scope.Bound.{Bound}

-- the value of a name after a put there
after_put : (es : List (List ℕ × Bound)) (name : List ℕ) (b : Bound) (n : List ℕ)
    → lookup (is_at (name_cmp n)) (insert_entry name_cmp es name b) ≡ cond (bytes_eq name n) (Some b) (lookup (is_at (name_cmp n)) es)
after_put es name b n =
    put_sets name_cmp name_total es name b n
    ∙ ap (λ t. cond t (Some b) (lookup (is_at (name_cmp n)) es)) (is_eq-slice_cmp n name ∙ turned n name)

after_delete : (es : List (List ℕ × Bound)) (name : List ℕ) → IsStrictlySortedBy name_cmp (keys_of es) → (n : List ℕ)
    → lookup (is_at (name_cmp n)) (remove_entry (is_at (name_cmp name)) es) ≡ cond (bytes_eq name n) None (lookup (is_at (name_cmp n)) es)
after_delete es name sorted n =
    delete_sets name_cmp name_total es name sorted n
    ∙ ap (λ t. cond t None (lookup (is_at (name_cmp n)) es)) (is_eq-slice_cmp n name ∙ turned n name)

-- the new keys and not the old ones
new_alone : (a s : Bool) → (((a && true) || s) && not ((s && not a) && true)) ≡ a
new_alone true true = refl
new_alone true false = refl
new_alone false true = refl
new_alone false false = refl

others_stay : (a s o : Bool) → (((a && false) || o) && not ((s && not a) && false)) ≡ o
others_stay a s o = rw (and_false a, and_false (s && not a)) (and_true o)

pub put_index : (g : Bound → List (List ℕ)) (es : List (List ℕ × Bound)) (old mid new : Sets) (name : List ℕ) (b : Bound) (stale now : List (List ℕ))
    → IsIndex g es old → stale ≡ keys_in g (lookup (is_at (name_cmp name)) es) → now ≡ g b → Adds (g b) name old mid → Removes stale now name mid new
    → AreOrdered new → IsIndex g (insert_entry name_cmp es name b) new
put_index g es old mid new name b stale now index was is adds gone ordered = record { ordered = ordered; exact = λ k n. at k n (bytes_eq name n) refl }
  where
    has : (k n : List ℕ) → has_name new k n ≡ (((is_key k (g b) && bytes_eq name n) || has_name old k n) && not ((is_key k stale && not (is_key k (g b))) && bytes_eq name n))
    has k n = gone k n ∙ rw (is, adds k n) refl

    at : (k n : List ℕ) (e : Bool) → bytes_eq name n ≡ e → has_name new k n ≡ is_key k (keys_in g (lookup (is_at (name_cmp n)) (insert_entry name_cmp es name b)))
    at k n true e =
        let same : name ≡ n = (bytes_eq-Decides name n).0 e in
        let stood : has_name old k n ≡ is_key k stale = rw (sym same, was) (index.exact k name) in
        has k n ∙ rw (e, stood) (new_alone (is_key k (g b)) (is_key k stale))
        ∙ sym (ap (λ o. is_key k (keys_in g o)) (after_put es name b n ∙ ap (λ t. cond t (Some b) (lookup (is_at (name_cmp n)) es)) e))
    at k n false e =
        has k n ∙ rw e (others_stay (is_key k (g b)) (is_key k stale) (has_name old k n)) ∙ index.exact k n
        ∙ sym (ap (λ o. is_key k (keys_in g o)) (after_put es name b n ∙ ap (λ t. cond t (Some b) (lookup (is_at (name_cmp n)) es)) e))

pub taken_index : (g : Bound → List (List ℕ)) (es : List (List ℕ × Bound)) (old new : Sets) (name : List ℕ) (stale none : List (List ℕ))
    → IsStrictlySortedBy name_cmp (keys_of es) → IsIndex g es old → stale ≡ keys_in g (lookup (is_at (name_cmp name)) es) → none ≡ [] → Removes stale none name old new
    → AreOrdered new → IsIndex g (remove_entry (is_at (name_cmp name)) es) new
taken_index g es old new name stale none sorted index was nothing gone ordered = record { ordered = ordered; exact = λ k n. at k n (bytes_eq name n) refl }
  where
    has : (k n : List ℕ) → has_name new k n ≡ (has_name old k n && not ((is_key k stale && true) && bytes_eq name n))
    has k n = gone k n ∙ rw nothing refl

    gone_itself : (s : Bool) → (s && not ((s && true) && true)) ≡ false
    gone_itself true = refl
    gone_itself false = refl

    at : (k n : List ℕ) (e : Bool) → bytes_eq name n ≡ e → has_name new k n ≡ is_key k (keys_in g (lookup (is_at (name_cmp n)) (remove_entry (is_at (name_cmp name)) es)))
    at k n true e =
        let same : name ≡ n = (bytes_eq-Decides name n).0 e in
        let stood : has_name old k n ≡ is_key k stale = rw (sym same, was) (index.exact k name) in
        has k n ∙ rw (e, stood) (gone_itself (is_key k stale))
        ∙ sym (ap (λ o. is_key k (keys_in g o)) (after_delete es name sorted n ∙ ap (λ t. cond t None (lookup (is_at (name_cmp n)) es)) e))
    at k n false e =
        has k n ∙ rw e (ap (λ x. has_name old k n && not x) (and_false (is_key k stale && true)) ∙ and_true (has_name old k n)) ∙ index.exact k n
        ∙ sym (ap (λ o. is_key k (keys_in g o)) (after_delete es name sorted n ∙ ap (λ t. cond t None (lookup (is_at (name_cmp n)) es)) e))

pub same_index : (g : Bound → List (List ℕ)) (es after : List (List ℕ × Bound)) (old new : Sets) → IsIndex g es old → after ≡ es → AreSame old new → AreOrdered new → IsIndex g after new
same_index g es after old new index stay same ordered = record { ordered = ordered; exact = λ k n. same k n ∙ index.exact k n ∙ rw stay refl }

-- the names under the keys of a stored binding
pub had_at : (g : Bound → List (List ℕ)) (es : List (List ℕ × Bound)) (sets : Sets) (name : List ℕ) (kept : List (List ℕ))
    → IsIndex g es sets → kept ≡ keys_in g (lookup (is_at (name_cmp name)) es) → HasAt kept name sets
had_at g es sets name kept index is = λ k. index.exact k name ∙ rw is refl

-- ---- as they are used

pub put_under : (g : Bound → List (List ℕ)) (es after : List (List ℕ × Bound)) (users mid new : Sets) (own name : List ℕ) (b : Bound) (stood : Option Bound) (stale now : List (List ℕ))
    → own ≡ name → IsIndex g es users → stood ≡ lookup (is_at (name_cmp own)) es → stale ≡ keys_in g stood → after ≡ insert_entry name_cmp es own b
    → now ≡ keys_in g (lookup (is_at (name_cmp name)) after) → Adds (g b) name users mid → Removes stale now name mid new → (AreOrdered users → AreOrdered new) → IsIndex g after new
put_under g es after users mid new own name b stood stale now same index was is entries at adds gone ordered =
    let entry : after ≡ insert_entry name_cmp es name b = entries ∙ ap (λ n. insert_entry name_cmp es n b) same in
    let itself : bytes_eq name name ≡ true = (bytes_eq-Decides name name).1 refl in
    rw entry (put_index g es users mid new name b stale now index
    (is ∙ ap (keys_in g) (was ∙ ap (λ n. lookup (is_at (name_cmp n)) es) same))
    (at ∙ ap (keys_in g) (ap (λ l. lookup (is_at (name_cmp name)) l) entry ∙ after_put es name b name ∙ ap (λ t. cond t (Some b) (lookup (is_at (name_cmp name)) es)) itself))
    adds gone (ordered index.ordered))

pub taken_under : (g : Bound → List (List ℕ)) (es after : List (List ℕ × Bound)) (users new : Sets) (name : List ℕ) (stood : Option Bound) (stale none : List (List ℕ))
    → IsStrictlySortedBy name_cmp (keys_of es) → IsIndex g es users → stood ≡ lookup (is_at (name_cmp name)) es → stale ≡ keys_in g stood
    → after ≡ remove_entry (is_at (name_cmp name)) es → none ≡ [] → Removes stale none name users new → (AreOrdered users → AreOrdered new) → IsIndex g after new
taken_under g es after users new name stood stale none sorted index was is entries nothing gone ordered =
    rw entries (taken_index g es users new name stale none sorted index (is ∙ ap (keys_in g) was) nothing gone (ordered index.ordered))

-- ---- the prepared keys, and what is seen of the bindings

prepared_put : (namespace : List ℕ) (es : List (List ℕ × Bound)) (name : List ℕ) (b : Bound) → IsPrepared namespace b → ArePrepared namespace es → ArePrepared namespace (insert_entry name_cmp es name b)
prepared_put namespace [] name b is all = (is, tt)
prepared_put namespace (e ∷ es) name b is all =
    elim (name_cmp name e.0) as (λ r. ArePrepared namespace (match_ordering r ((name, b) ∷ e ∷ es) ((e.0, b) ∷ es) (e ∷ insert_entry name_cmp es name b))) [
      | Less ↦ (is, all)
      | Equal ↦ (is, all.1)
      | Greater ↦ (all.0, prepared_put namespace es name b is all.1)
    ]

prepared_taken : (namespace : List ℕ) (test : List ℕ → Bool) (es : List (List ℕ × Bound)) → ArePrepared namespace es → ArePrepared namespace (remove_entry test es)
prepared_taken namespace test [] all = tt
prepared_taken namespace test (e ∷ es) all =
    elim (test e.0) as (λ t. ArePrepared namespace (cond t es (e ∷ remove_entry test es))) [ true ↦ all.1 | false ↦ (all.0, prepared_taken namespace test es all.1) ]

pub bare_put : (es : List (List ℕ × Bound)) (name : List ℕ) (b : Bound) → bare (insert_entry name_cmp es name b) ≡ insert_entry name_cmp (bare es) name b.binding
bare_put [] name b = refl
bare_put (e ∷ es) name b =
    elim (name_cmp name e.0) as (λ r. bare (match_ordering r ((name, b) ∷ e ∷ es) ((e.0, b) ∷ es) (e ∷ insert_entry name_cmp es name b))
    ≡ match_ordering r ((name, b.binding) ∷ (e.0, e.1.binding) ∷ bare es) ((e.0, b.binding) ∷ bare es) ((e.0, e.1.binding) ∷ insert_entry name_cmp (bare es) name b.binding)) [
      | Less ↦ refl
      | Equal ↦ refl
      | Greater ↦ ap (λ l. (e.0, e.1.binding) ∷ l) (bare_put es name b)
    ]

pub bare_taken : (test : List ℕ → Bool) (es : List (List ℕ × Bound)) → bare (remove_entry test es) ≡ remove_entry test (bare es)
bare_taken test [] = refl
bare_taken test (e ∷ es) =
    elim (test e.0) as (λ t. bare (cond t es (e ∷ remove_entry test es)) ≡ cond t (bare es) ((e.0, e.1.binding) ∷ remove_entry test (bare es))) [
      | true ↦ refl
      | false ↦ ap (λ l. (e.0, e.1.binding) ∷ l) (bare_taken test es)
    ]

pub exact_put : {T E : Type 0} (namespace : List ℕ) (es after : List (List ℕ × Bound)) (users groups : Sets) (name : List ℕ) (b : Bound) (r : Result T E)
    → ArePrepared namespace es → IsPrepared namespace b → OnOk r (after ≡ insert_entry name_cmp es name b) → OnErr r (after ≡ es)
    → IsStrictlySortedBy name_cmp (keys_of after) → IsIndex user_keys after users → IsIndex group_keys after groups → IsExact namespace after users groups
exact_put namespace es after users groups name b (Ok x) all is done kept sorted by_user by_group =
    record { sorted = sorted; prepared = rw done (prepared_put namespace es name b is all); by_user = by_user; by_group = by_group }
exact_put namespace es after users groups name b (Err e) all is done kept sorted by_user by_group =
    record { sorted = sorted; prepared = rw kept all; by_user = by_user; by_group = by_group }

pub exact_taken : (namespace : List ℕ) (es after : List (List ℕ × Bound)) (users groups : Sets) (test : List ℕ → Bool)
    → ArePrepared namespace es → after ≡ remove_entry test es
    → IsStrictlySortedBy name_cmp (keys_of after) → IsIndex user_keys after users → IsIndex group_keys after groups → IsExact namespace after users groups
exact_taken namespace es after users groups test all done sorted by_user by_group =
    record { sorted = sorted; prepared = rw done (prepared_taken namespace test es all); by_user = by_user; by_group = by_group }

pub seen_put : (seen : Scoped) (namespace : List ℕ) (es after : List (List ℕ × Bound)) (name : List ℕ) (b : Bound)
    → record { namespace = namespace; bindings = bare es } ≡ seen → after ≡ insert_entry name_cmp es name b
    → record { namespace = namespace; bindings = bare after } ≡ record seen { bindings = insert_entry name_cmp seen.bindings name b.binding }
seen_put seen namespace es after name b is done =
    ap (λ l. record { namespace = namespace; bindings = l }) (ap bare done ∙ bare_put es name b)
    ∙ ap (λ (s : Scoped). record s { bindings = insert_entry name_cmp s.bindings name b.binding }) is

pub seen_taken : (seen : Scoped) (namespace : List ℕ) (es after : List (List ℕ × Bound)) (test : List ℕ → Bool)
    → record { namespace = namespace; bindings = bare es } ≡ seen → after ≡ remove_entry test es
    → record { namespace = namespace; bindings = bare after } ≡ record seen { bindings = remove_entry test seen.bindings }
seen_taken seen namespace es after test is done =
    ap (λ l. record { namespace = namespace; bindings = l }) (ap bare done ∙ bare_taken test es)
    ∙ ap (λ (s : Scoped). record s { bindings = remove_entry test s.bindings }) is
