-- A namespace that is known to exist goes on existing until an object is removed.
use Rattle.std.proofs.Common.{◌≡◌, ℕ, Bool, true, false, cond, List, [], ◌∷◌, Option, None, Some, option_map, refl, sym, ap, subst, ◌∙◌}
use Rattle.std.specs.Option.{is_some}
use Rattle.std.specs.Ordering.{match_ordering}
use Rattle.std.specs.declared.cmp.Ordering.{Ordering}
use Rattle.std.specs.declared.cmp.Ordering.TheVariants.{Less, Equal, Greater}
use Rattle.std.specs.Map.{lookup}
use Rattle.std.specs.BTreeMap.{insert_entry}
use Rattle.serde_json.specs.Data.{Data}
use Rattle.kapi_store.specs.declared.key.Key.{Key}
use Rattle.kapi_store.specs.declared.stored.StoredObject.{StoredObject}
use Rattle.kapi_store.specs.Changes.{placed}
use Rattle.kapi_store.specs.Keys.{key_cmp, is_key, namespace_key}
use Rattle.kapi_store.specs.Plain.{Plain, has_object}
use Rattle.kapi_store.specs.Private.Existing.{Exists}
use Rattle.kapi_store.specs.Stored.{stored_tree}

-- an entry that is put into a map takes no key away
inserted_there : {K X : Type 0} (cmp : K → K → Ordering) (test : K → Bool) (k : K) (x : X) (es : List (K × X)) → is_some (lookup test es) ≡ true → is_some (lookup test (insert_entry cmp es k x)) ≡ true
inserted_there cmp test k x [] h = absurd (cc h)
inserted_there cmp test k x (e ∷ es) h =
    elim (cmp k e.0) as (λ o. is_some (lookup test (match_ordering o ((k, x) ∷ e ∷ es) ((e.0, x) ∷ es) (e ∷ insert_entry cmp es k x))) ≡ true) [
      | Less ↦ elim (test k) as (λ b. is_some (cond b (Some x) (lookup test (e ∷ es))) ≡ true) [ true ↦ refl | false ↦ h ]
      | Equal ↦ elim (test e.0) as (λ b. is_some (cond b (Some e.1) (lookup test es)) ≡ true → is_some (cond b (Some x) (lookup test es)) ≡ true) [ true ↦ λ _. refl | false ↦ λ there. there ] h
      | Greater ↦ elim (test e.0) as (λ b. is_some (cond b (Some e.1) (lookup test es)) ≡ true → is_some (cond b (Some e.1) (lookup test (insert_entry cmp es k x))) ≡ true) [
        | true ↦ λ _. refl
        | false ↦ λ there. inserted_there cmp test k x es there
      ] h
    ]

-- with the same objects
pub exists_alike : (p q : Plain) (known : Option (List ℕ)) → q.objects ≡ p.objects → Exists known p → Exists known q
unfolding has_object
exists_alike p q None same h = tt
exists_alike p q (Some name) same h = ap (λ os. is_some (lookup (is_key (namespace_key name)) os)) same ∙ h

-- with one object more, or another one in the place of an object
exists_beside : (p q : Plain) (known : Option (List ℕ)) (k : Key) (x : Data) → q.objects ≡ placed k (Some x) p.objects → Exists known p → Exists known q
unfolding has_object placed
exists_beside p q None k x made h = tt
exists_beside p q (Some name) k x made h =
    let test = is_key (namespace_key name) in
    ap (λ os. is_some (lookup test os)) made ∙ inserted_there key_cmp test k x p.objects h

-- after a change of one object: if that is removed, none is known
pub exists_after : (p q : Plain) (before after : Option (List ℕ)) (k : Key) (o : Option StoredObject) → q.objects ≡ placed k (option_map stored_tree o) p.objects
    → (o ≡ None → after ≡ None) → ((x : StoredObject) → o ≡ Some x → after ≡ before) → Exists before p → Exists after q
exists_after p q before after k None made removed stays h =
    let P : Option (List ℕ) → Type 0 = λ known. Exists known q in
    subst P (sym (removed refl)) tt
exists_after p q before after k (Some x) made removed stays h =
    let P : Option (List ℕ) → Type 0 = λ known. Exists known q in
    subst P (sym (stays x refl)) (exists_beside p q before k (stored_tree x) made h)
