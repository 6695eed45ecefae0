-- Entries that are inserted in their order.
use Rattle.std.proofs.Common.{◌≡◌, List, [], ◌∷◌, ◌++◌, refl, ap, append_assoc, ◌∙◌}
use Rattle.std.specs.BTreeMap.{insert_entry}
use Rattle.std.specs.Cmp.{IsTotalOrder}
use Rattle.std.specs.List.{AllByRecursion}
use Rattle.std.specs.List.Sorted.{IsStrictlySortedBy}
use Rattle.std.specs.Map.{keys_of}
use Rattle.std.specs.Ordering.{ordering_reverse}
use Rattle.std.specs.declared.cmp.Ordering.{Ordering}
use Rattle.std.specs.declared.cmp.Ordering.TheVariants.{Less, Greater}

-- what holds of all keys holds of one
key_among : {K X : Type 0} (P : K → Type 0) (es : List (K × X)) (k : K) (v : X) (rest : List (K × X)) → AllByRecursion P (keys_of (es ++ (k, v) ∷ rest)) → P k
key_among P [] k v rest h = h.0
key_among P (e ∷ es) k v rest h = key_among P es k v rest h.1

-- an entry whose key is above those of the others goes to the end
pub insert_last : {K X : Type 0} (cmp : K → K → Ordering) → IsTotalOrder cmp → (es : List (K × X)) (k : K) (v : X) (rest : List (K × X)) → IsStrictlySortedBy cmp (keys_of (es ++ (k, v) ∷ rest)) → insert_entry cmp es k v ≡ es ++ (k, v) ∷ []
unfolding IsStrictlySortedBy
insert_last cmp o [] k v rest h = refl
insert_last cmp o (e ∷ es) k v rest h =
    let above : cmp k e.0 ≡ Greater = o.antisymm k e.0 ∙ ap ordering_reverse (key_among (λ y. cmp e.0 y ≡ Less) es k v rest h.0) in
    rw above (ap (λ l. e ∷ l) (insert_last cmp o es k v rest h.1))

-- one more of the entries of a sorted list
pub one_more : {K X : Type 0} (cmp : K → K → Ordering) → IsTotalOrder cmp → (es : List (K × X)) (k : K) (v : X) (rest all new : List (K × X)) → es ++ (k, v) ∷ rest ≡ all → IsStrictlySortedBy cmp (keys_of all) → new ≡ insert_entry cmp es k v → new ++ rest ≡ all
one_more cmp o es k v rest all new whole sorted inserted =
    ap (λ l. l ++ rest) (inserted ∙ insert_last cmp o es k v rest (rw whole sorted)) ∙ append_assoc es ((k, v) ∷ []) rest ∙ whole
