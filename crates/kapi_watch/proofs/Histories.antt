-- What a store writes goes on with its history.
use Rattle.std.proofs.Common.{◌≡◌, ℕ, ◌+◌, Bool, true, false, List, [], ◌∷◌, ◌++◌, Option, None, Some, Result, Ok, Err, IfSome, if◌then◌else◌, ok_or, length, refl, sym, ◌∙◌, subst}
use Rattle.std.specs.List.{AllByRecursion, IsDistinct}
use Rattle.std.specs.Map.{lookup, remove_entry}
use Rattle.serde_json.specs.Data.{Data}
use Rattle.kapi_text.specs.ResultIs.{◌>>=◌}
use Rattle.kapi_store.proofs.Keys.{key_same, key_total}
use Rattle.kapi_store.proofs.Places.{nothing_stands}
use Rattle.kapi_store.proofs.Windows.{Follow_append}
use Rattle.kapi_store.specs.Changes.{placed, placed_all, Follow}
use Rattle.kapi_store.specs.Faults.{StoreFault, Missing}
use Rattle.kapi_store.specs.Keys.{is_key, key_cmp}
use Rattle.kapi_store.specs.Plain.{Plain, PlainChange, RefinesPlain, trees_left_by, creation_at, creation_in_place, free_place, removable, removals, replaced, replacement_at, revisions_left}
use Rattle.kapi_store.specs.Same.{same_tree}
use Rattle.kapi_store.specs.UidAndVersion.{with_stamps_of}
use Rattle.kapi_store.specs.State.{State}
use Rattle.kapi_store.specs.declared.key.Key.{Key}
use Rattle.kapi_watch.specs.Histories.{IsNamedBy, AreMadeOf, IsHistory, NoChangeIsAHistory, GoesOn, IsCreation, IsReplacement, IsRemoval}
use Rattle.kapi_watch.proofs.Maps.{lookup_other}
use Rattle.kapi_watch.proofs.Named.{named_created, named_replaced}

pub no_change : NoChangeIsAHistory
unfolding AreMadeOf Follow
no_change first = record { made = tt; numbered = tt }

-- changes that were made of what the first ones left
made_append : (xs ys : List PlainChange) (os : List (Key × Data)) → AreMadeOf os xs → AreMadeOf (placed_all (trees_left_by xs) os) ys → AreMadeOf os (xs ++ ys)
unfolding AreMadeOf placed_all
made_append [] ys os m n = n
made_append (c ∷ xs) ys os m n = (m.0, m.1, made_append xs ys (placed c.key c.new os) m.2 n)

-- changes that are made of a store next
pub record AreNext (s : Plain) (cs : List PlainChange) : Type 0 where
  pub made : AreMadeOf s.objects cs
  pub next : Follow (λ c. c.revision) s.revision cs

pub next_none : (s : Plain) → AreNext s []
unfolding AreMadeOf Follow
next_none s = record { made = tt; next = tt }

next_one : (s : Plain) (c : PlainChange) → c.revision ≡ s.revision + 1 → c.old ≡ lookup (is_key c.key) s.objects → IfSome c.new (IsNamedBy c.key) → AreNext s (c ∷ [])
unfolding AreMadeOf Follow
next_one s c is old new = record { made = (old, new, tt); next = (is, tt) }

-- changes that come next go on with the history of the store's objects, which its revision counts
pub counted_goes_on : (h cs : List PlainChange) (s : Plain) → s.objects ≡ placed_all (trees_left_by h) [] → s.revision ≡ s.first + length h → IsHistory s.first h → AreNext s cs
    → IsHistory s.first (h ++ cs)
counted_goes_on h cs s made counted k n =
    let P : List (Key × Data) → Type 0 = λ os. AreMadeOf os cs in
    let Q : ℕ → Type 0 = λ revision. Follow (λ c. c.revision) revision cs in
    record {
      made = made_append h cs [] k.made (subst P made n.made);
      numbered = Follow_append (λ c. c.revision) s.first h cs k.numbered (subst Q counted n.next);
    }

next_goes_on : (store : State) (h cs : List PlainChange) (s : Plain) → RefinesPlain store h s → IsHistory s.first h → AreNext s cs → IsHistory s.first (h ++ cs)
next_goes_on store h cs s stands k n = counted_goes_on h cs s stands.made stands.counted k n

-- ---- a creation

in_place_next : (s : Plain) (k : Key) (tree : Data) (cs : List PlainChange) → IsNamedBy k tree → None ≡ lookup (is_key k) s.objects → (r : Result (Unit {0}) StoreFault)
    → (r >>= λ _. Ok (creation_at k tree (s.revision + 1) ∷ [])) ≡ Ok cs → AreNext s cs
in_place_next s k tree cs named none (Err e) is = absurd (cc is)
in_place_next s k tree cs named none (Ok u) is =
    let same : creation_at k tree (s.revision + 1) ∷ [] ≡ cs = cc in
    let P : List PlainChange → Type 0 = AreNext s in
    subst P same (next_one s (creation_at k tree (s.revision + 1)) refl none (named_created k (s.revision + 1) tree named))

creation_next : (s : Plain) (k : Key) (tree : Data) (cs : List PlainChange) → IsNamedBy k tree → (r : Result (Unit {0}) StoreFault) → free_place s k ≡ r
    → (r >>= λ _. creation_in_place s k tree) ≡ Ok cs → AreNext s cs
creation_next s k tree cs named (Err e) free is = absurd (cc is)
creation_next s k tree cs named (Ok u) free is = in_place_next s k tree cs named (sym (nothing_stands s k free)) (revisions_left s 1) is

pub creation_is_next : (s : Plain) (cs : List PlainChange) → IsCreation s cs → AreNext s cs
creation_is_next s cs w = creation_next s w.0 w.1 cs w.2 (free_place s w.0) refl w.3

pub created_goes_on : GoesOn IsCreation
created_goes_on store h cs s stands k w = next_goes_on store h cs s stands k (creation_is_next s cs w)

-- ---- a replacement

replaced_if_left : (s : Plain) (k : Key) (tree old : Data) (cs : List PlainChange) → IsNamedBy k tree → Some old ≡ lookup (is_key k) s.objects → (r : Result (Unit {0}) StoreFault)
    → (r >>= λ _. Ok (replacement_at k old tree (s.revision + 1) ∷ [])) ≡ Ok cs → AreNext s cs
replaced_if_left s k tree old cs named some (Err e) is = absurd (cc is)
replaced_if_left s k tree old cs named some (Ok u) is =
    let same : replacement_at k old tree (s.revision + 1) ∷ [] ≡ cs = cc in
    let P : List PlainChange → Type 0 = AreNext s in
    subst P same (next_one s (replacement_at k old tree (s.revision + 1)) refl some (named_replaced k (s.revision + 1) old tree named))

replaced_next : (s : Plain) (k : Key) (tree old : Data) (cs : List PlainChange) → IsNamedBy k tree → Some old ≡ lookup (is_key k) s.objects → (same : Bool)
    → (if same then Ok [] else (revisions_left s 1 >>= λ _. Ok (replacement_at k old tree (s.revision + 1) ∷ []))) ≡ Ok cs → AreNext s cs
replaced_next s k tree old cs named some true is =
    let none : [] ≡ cs = cc in
    let P : List PlainChange → Type 0 = AreNext s in subst P none (next_none s)
replaced_next s k tree old cs named some false is = replaced_if_left s k tree old cs named some (revisions_left s 1) is

replacement_next : (s : Plain) (k : Key) (tree : Data) (cs : List PlainChange) → IsNamedBy k tree → (o : Option Data) → o ≡ lookup (is_key k) s.objects
    → (ok_or o Missing >>= replaced s k tree) ≡ Ok cs → AreNext s cs
replacement_next s k tree cs named None at is = absurd (cc is)
replacement_next s k tree cs named (Some old) at is = replaced_next s k tree old cs named at (same_tree (with_stamps_of old tree) old) is

pub replacement_is_next : (s : Plain) (cs : List PlainChange) → IsReplacement s cs → AreNext s cs
replacement_is_next s cs w = replacement_next s w.0 w.1 cs w.2 (lookup (is_key w.0) s.objects) refl w.3

pub replaced_goes_on : GoesOn IsReplacement
replaced_goes_on store h cs s stands k w = next_goes_on store h cs s stands k (replacement_is_next s cs w)

-- ---- a removal

-- each removal takes out the object that its key had before all of them, since the keys differ
removals_made : (os left : List (Key × Data)) (revision : ℕ) (ks : List Key) → IsDistinct is_key ks → AllByRecursion (λ k. lookup (is_key k) os ≡ lookup (is_key k) left) ks
    → AreMadeOf left (removals os revision ks)
unfolding AreMadeOf placed removals IsDistinct
removals_made os left revision [] apart same = tt
removals_made os left revision (k ∷ ks) apart same =
    (same.0, tt, removals_made os (remove_entry (is_key k) left) (revision + 1) ks apart.1 (still ks apart.0 same.1))
  where
    still : (ls : List Key) → AllByRecursion (λ l. is_key k l ≡ false) ls → AllByRecursion (λ l. lookup (is_key l) os ≡ lookup (is_key l) left) ls
        → AllByRecursion (λ l. lookup (is_key l) os ≡ lookup (is_key l) (remove_entry (is_key k) left)) ls
    still [] others h = tt
    still (l ∷ ls) others h = (h.0 ∙ sym (lookup_other key_cmp key_total key_same k l left others.0), still ls others.1 h.1)

removals_follow : (os : List (Key × Data)) (revision : ℕ) (ks : List Key) → Follow (λ c. c.revision) revision (removals os revision ks)
unfolding Follow removals
removals_follow os revision [] = tt
removals_follow os revision (k ∷ ks) = (refl, removals_follow os (revision + 1) ks)

all_same : (os : List (Key × Data)) (ks : List Key) → AllByRecursion (λ k. lookup (is_key k) os ≡ lookup (is_key k) os) ks
all_same os [] = tt
all_same os (k ∷ ks) = (refl, all_same os ks)

removal_next : (s : Plain) (ks : List Key) (cs : List PlainChange) → IsDistinct is_key ks → (r q : Result (Unit {0}) StoreFault)
    → (r >>= λ _. q >>= λ _. Ok (removals s.objects s.revision ks)) ≡ Ok cs → AreNext s cs
removal_next s ks cs apart (Err e) q is = absurd (cc is)
removal_next s ks cs apart (Ok u) (Err e) is = absurd (cc is)
removal_next s ks cs apart (Ok u) (Ok v) is =
    let same : removals s.objects s.revision ks ≡ cs = cc in
    let P : List PlainChange → Type 0 = AreNext s in
    subst P same record {
      made = removals_made s.objects s.objects s.revision ks apart (all_same s.objects ks);
      next = removals_follow s.objects s.revision ks;
    }

pub removal_is_next : (s : Plain) (cs : List PlainChange) → IsRemoval s cs → AreNext s cs
removal_is_next s cs w = removal_next s w.0 cs w.1 (removable s w.0) (revisions_left s (length w.0)) w.2

pub removed_goes_on : GoesOn IsRemoval
removed_goes_on store h cs s stands k w = next_goes_on store h cs s stands k (removal_is_next s cs w)
