-- Lists of changes, one after the other.
use Rattle.std.proofs.Common.{◌≡◌, ℕ, ◌+◌, List, [], ◌∷◌, ◌++◌, Option, None, Some, Ok, false, IsSome, option_map, map, refl, sym, ap, ◌∙◌, subst, append_assoc}
use Rattle.std.specs.Map.{lookup}
use Rattle.std.proofs.lemmas.List.{map-append}
use Rattle.kapi_store.specs.Stored.{stored_tree}
use Rattle.kapi_store.specs.Keys.{is_key}
use Rattle.serde_json.specs.Data.{Data}
use Rattle.kapi_store.specs.Same.{same_tree}
use Rattle.kapi_store.specs.UidAndVersion.{with_stamps_of, replaced_tree}
use Rattle.kapi_store.specs.Plain.{Plain, PlainChange, plain_change, trees, removals, revisions_left, replaced}
use Rattle.kapi_store.proofs.Trees.{lookup_trees}
use Rattle.kapi_store.specs.declared.stored.StoredObject.{StoredObject}
use Rattle.kapi_store.specs.declared.key.Key.{Key}
use Rattle.kapi_store.specs.declared.change.Change.{Change}
use Rattle.kapi_store.specs.Changes.{IsOne, placed, placed_all, AreRemovals, IsStep, IsWrite}
use Rattle.kapi_store.specs.State.{HasSlot}

pub placed_all_append : {X : Type 0} (vs ws : List (Key × Option X)) (os : List (Key × X)) → placed_all (vs ++ ws) os ≡ placed_all ws (placed_all vs os)
unfolding placed_all
placed_all_append [] ws os = refl
placed_all_append (v ∷ vs) ws os = placed_all_append vs ws (placed v.0 v.1 os)

pub removals_write : (cs : List Change) → AreRemovals cs → IsWrite None cs
unfolding AreRemovals IsWrite
removals_write [] h = tt
removals_write (c ∷ cs) h = (sym h.0, h.1)

-- removals are one step
pub removals_alone : (cs : List Change) → AreRemovals cs → IsStep cs
removals_alone [] h = tt
removals_alone (c ∷ []) h = tt
removals_alone (c ∷ d ∷ cs) h = h

pub removals_slot : (slots : List (Key × Option StoredObject)) (cs : List Change) → AreRemovals cs → HasSlot slots cs
unfolding AreRemovals HasSlot
removals_slot slots [] h = tt
removals_slot slots (c ∷ cs) h = λ some. let P : Option StoredObject → Type 0 = λ o. IsSome o in absurd (cc (subst P h.0 some))

pub removals_more : (cs : List Change) (c : Change) → AreRemovals cs → c.new ≡ None → AreRemovals (cs ++ c ∷ [])
unfolding AreRemovals
removals_more [] c h none = (none, tt)
removals_more (d ∷ cs) c h none = (h.0, removals_more cs c h.1 none)

-- one removal more
pub removals_step : (os : List (Key × StoredObject)) (cs : List Change) (before : ℕ) (k : Key) (c : Change) (left : List Key) → c.revision ≡ before + 1 → c.key ≡ k → c.old ≡ lookup (is_key k) os → c.new ≡ None
    → map plain_change (cs ++ c ∷ []) ++ removals (trees os) (before + 1) left
    ≡ map plain_change cs ++ removals (trees os) before (k ∷ left)
unfolding removals
removals_step os cs before k c left next at is none =
    let rest : List PlainChange = removals (trees os) (before + 1) left in
    let old : option_map stored_tree c.old ≡ lookup (is_key k) (trees os) = ap (option_map stored_tree) is ∙ sym (lookup_trees k os) in
    let made : plain_change c ≡ record { revision = before + 1; key = k; old = lookup (is_key k) (trees os); new = None }
    = λ i. record { revision = next i; key = at i; old = old i; new = option_map stored_tree (none i) } in
    ap (λ ms. ms ++ rest) (map-append plain_change cs (c ∷ []))
    ∙ append_assoc (map plain_change cs) (plain_change c ∷ []) rest
    ∙ ap (λ d. map plain_change cs ++ d ∷ rest) made

-- what was prepared is the replacement
pub replaced_by : (s : Plain) (k : Key) (tree old : Data) (cs : List Change) (revision : ℕ) (before after : StoredObject) → same_tree (with_stamps_of old tree) old ≡ false → revisions_left s 1 ≡ Ok tt
    → IsOne revision k (Some before) (Some after) cs → revision ≡ s.revision + 1 → stored_tree before ≡ old → stored_tree after ≡ replaced_tree revision old tree
    → replaced s k tree old ≡ Ok (map plain_change cs)
replaced_by s k tree old cs revision before after other left one next was now =
    let made : stored_tree after ≡ replaced_tree (s.revision + 1) old tree = now ∙ ap (λ n. replaced_tree n old tree) next in
    let numbered : one.change.revision ≡ s.revision + 1 = one.numbered ∙ next in
    let old_is : option_map stored_tree one.change.old ≡ Some old = ap (option_map stored_tree) one.before ∙ ap Some was in
    let new_is : option_map stored_tree one.change.new ≡ Some (replaced_tree (s.revision + 1) old tree) = ap (option_map stored_tree) one.after ∙ ap Some made in
    let change : plain_change one.change ≡ record { revision = s.revision + 1; key = k; old = Some old; new = Some (replaced_tree (s.revision + 1) old tree) }
    = λ i. record { revision = numbered i; key = one.place i; old = old_is i; new = new_is i } in
    rw (other, left) (sym (ap (λ ds. Ok (map plain_change ds)) one.one ∙ ap (λ d. Ok (d ∷ [])) change))
