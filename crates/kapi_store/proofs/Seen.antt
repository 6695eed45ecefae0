-- How contracts see slots, of which one may be hidden.
use Rattle.std.proofs.Common.{◌≡◌, Bool, true, false, not, cond, List, [], ◌∷◌, Option, None, Some, map, refl, sym, ap, ◌∙◌}
use Rattle.std.specs.Option.{is_some}
use Rattle.std.specs.Map.{lookup, keys_of}
use Rattle.kapi_store.specs.declared.key.Key.{Key}
use Rattle.kapi_store.specs.declared.slots.Hidden.{Hidden}
use Rattle.kapi_store.specs.Keys.{is_key}
use Rattle.kapi_store.specs.Private.Hidden.{hides, hidden_key, seen, visible}
use Rattle.kapi_store.specs.State.{held, live, IsReserved}
use Rattle.kapi_store.proofs.SlotSteps.{hidden_is}

module _ {X : Type 0} where
  pub seen_keys : (hidden : Option Hidden) (es : List (Key × X)) → keys_of (map (seen hidden) es) ≡ keys_of es
  seen_keys hidden [] = refl
  seen_keys hidden (e ∷ es) = ap (λ ks. e.0 ∷ ks) (seen_keys hidden es)

  -- those that are not empty are the visible ones
  pub seen_live : (hidden : Option Hidden) (es : List (Key × X)) → live (map (seen hidden) es) ≡ visible hidden es
  unfolding live visible
  seen_live hidden [] = refl
  seen_live hidden (e ∷ es) =
      elim (hides hidden e.0) as (λ b. held e.0 (cond b None (Some e.1)) (live (map (seen hidden) es)) ≡ cond (not b) (e ∷ visible hidden es) (visible hidden es)) [
        | true ↦ seen_live hidden es
        | false ↦ ap (λ os. e ∷ os) (seen_live hidden es)
      ]

  -- slots whose visible ones are the same have the same that are not empty
  pub seen_same : (before after : Option Hidden) (es fs : List (Key × X)) → visible after fs ≡ visible before es → live (map (seen after) fs) ≡ live (map (seen before) es)
  seen_same before after es fs same = seen_live after fs ∙ same ∙ sym (seen_live before es)

  -- the hidden one alone is empty
  pub seen_reserved : (hidden : Option Hidden) (es : List (Key × X)) → IsReserved (hidden_key hidden) (map (seen hidden) es)
  unfolding IsReserved
  seen_reserved hidden [] = tt
  seen_reserved hidden (e ∷ es) = (empty (hides hidden e.0) refl, seen_reserved hidden es)
    where
      empty : (b : Bool) → hides hidden e.0 ≡ b → cond b None (Some e.1) ≡ None → hidden_key hidden ≡ Some e.0
      empty true is none = hidden_is hidden e.0 is
      empty false is none = absurd (cc none)

  -- a key has a slot if it is seen to have one
  pub seen_slot : (hidden : Option Hidden) (k : Key) (es : List (Key × X)) → is_some (lookup (is_key k) (map (seen hidden) es)) ≡ is_some (lookup (is_key k) es)
  seen_slot hidden k [] = refl
  seen_slot hidden k (e ∷ es) =
      elim (is_key k e.0) as (λ b. is_some (cond b (Some (seen hidden e).1) (lookup (is_key k) (map (seen hidden) es))) ≡ is_some (cond b (Some e.1) (lookup (is_key k) es))) [
        | true ↦ refl
        | false ↦ seen_slot hidden k es
      ]
