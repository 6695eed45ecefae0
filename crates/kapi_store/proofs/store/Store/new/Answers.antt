use Rattle.std.proofs.Common.{List, None, map, refl, sym, ap, subst}
use Rattle.std.specs.List.Sorted.{IsStrictlySortedBy}
use Rattle.std.specs.Map.{keys_of}
use Rattle.kapi_store.specs.Keys.{key_cmp}
use Rattle.kapi_store.specs.Private.Hidden.{seen}
use Rattle.kapi_store.specs.State.{live}
use Rattle.kapi_store.specs.declared.key.Key.{Key}
use Rattle.kapi_store.specs.declared.stored.StoredObject.{StoredObject}
use Rattle.kapi_store.proofs.Stores.{new_store, opened_stands}
use Rattle.kapi_store.proofs.store.Store.new.Goals as goal

pub invariant_of-result : goal.invariant_of-result
unfolding IsStrictlySortedBy
invariant_of-result c =
    let P : List (Key × StoredObject) → Type 0 = λ es. IsStrictlySortedBy key_cmp (keys_of es) in
    (new_store _ (ap (map (seen None)) c.new-2.ensures.empty) c.in_ok-new-2.ensures refl c.requires, tt, subst P (sym c.new-2.ensures.empty) tt, tt)

pub returns-clause-objects : goal.returns-clause-objects
unfolding live
returns-clause-objects c = ap (λ es. live (map (seen None) es)) c.new-2.ensures.empty

pub returns-clause-stands : goal.returns-clause-stands
returns-clause-stands c = opened_stands _ _ _ c.in_ok-new.ensures (ap (map (seen None)) c.new-2.ensures.empty) refl refl c.in_ok-new-2.ensures
