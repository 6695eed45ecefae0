-- What holds of every store, from one change to the next, and the model that it refines.
use Rattle.std.proofs.Common.{◌≡◌, ℕ, suc, ◌+◌, ◌-◌, ◌≤◌, ◌<◌, min, max, Ok, Err, List, [], ◌∷◌, ◌++◌, Option, IsSome, length, map, drop, refl, sym, ap, ◌∙◌, subst, arith}
use Rattle.std.specs.Prelude.{nat_lt}
use Rattle.std.specs.List.{filter}
use Rattle.std.specs.List.Sorted.{IsStrictlySortedBy}
use Rattle.std.proofs.lemmas.Bool.{lt-ltb, le-ltb}
use Rattle.std.specs.Map.{keys_of, lookup}
use Rattle.std.proofs.lemmas.List.{map-append, length-append, length-map, length-drop}
use Rattle.kapi_model.specs.declared.row.ResourceRow.{ResourceRow}
use Rattle.kapi_store.specs.declared.change.Change.{Change}
use Rattle.kapi_store.specs.declared.key.Key.{Key}
use Rattle.kapi_store.specs.declared.slots.Hidden.{Hidden}
use Rattle.kapi_store.specs.declared.stored.StoredObject.{StoredObject}
use Rattle.kapi_store.specs.Limits.{last_revision, window_limit}
use Rattle.kapi_store.specs.Keys.{key_cmp, is_key}
use Rattle.kapi_store.specs.Changes.{placed_all, left_by, last_of, Follow, revision_of, AreRemovals}
use Rattle.kapi_store.specs.Private.Hidden.{hidden_key, seen, visible}
use Rattle.kapi_store.specs.State.{State, objects, live, IsReserved, HasSlot, Same, Fits, IsStore}
use Rattle.kapi_store.specs.Plain.{Plain, PlainChange, RefinesPlain, plain_of, plain_change, changes_after, opened, written, trees, trees_left_by}
use Rattle.kapi_store.proofs.Seen.{seen_keys, seen_live, seen_reserved}
use Rattle.kapi_store.proofs.SlotSteps.{visible_sorted, hidden_bound}
use Rattle.kapi_store.proofs.Writes.{placed_all_append, removals_slot}
use Rattle.kapi_store.proofs.Trees.{placed_all_trees}
use Rattle.kapi_store.proofs.Windows.{last_last, last_none, last_shorter, last_map, numbered_after, Follow_append, Follow_drop, Follow_map}

-- the store without objects and changes
pub new_store : (s : State) → s.slots ≡ [] → s.window ≡ [] → s.revision ≡ s.first → s.first ≤ last_revision → IsStore s
unfolding live Follow IsStrictlySortedBy IsReserved
new_store s slots window revision last = record {
  slots = rw slots tt;
  ordered = rw slots tt;
  reserved = rw slots tt;
  bounded = rw slots (omega arith);
  numbered = rw window tt;
  counted = rw window (omega arith);
  begun = omega arith;
  limited = omega arith;
}

-- slots are in order, and one alone is empty
pub record AreSlots (s : State) : Type 0 where
  pub slots : IsStrictlySortedBy key_cmp (keys_of s.slots)
  pub ordered : IsStrictlySortedBy key_cmp (keys_of (objects s))
  pub reserved : IsReserved s.reserved s.slots
  pub bounded : length s.slots ≤ length (objects s) + 1

-- so are those of a store as contracts see them
pub seen_slots : (s : State) (hidden : Option Hidden) (es : List (Key × StoredObject)) → s.slots ≡ map (seen hidden) es → s.reserved ≡ hidden_key hidden → IsStrictlySortedBy key_cmp (keys_of es) → AreSlots s
seen_slots s hidden es slots reserved sorted =
    let Sorted : List Key → Type 0 = λ ks. IsStrictlySortedBy key_cmp ks in
    let Reserved : Option Key → Type 0 = λ k. IsReserved k (map (seen hidden) es) in
    let At : List (Key × Option StoredObject) → Type 0 = λ os. IsReserved s.reserved os in
    let left : objects s ≡ visible hidden es = ap live slots ∙ seen_live hidden es in
    let many : length s.slots ≡ length es = ap length slots ∙ length-map es (seen hidden) in
    let few : length (objects s) ≡ length (visible hidden es) = ap length left in
    let bound : length es ≤ length (visible hidden es) + 1 = hidden_bound hidden es sorted in
    record {
      slots = subst Sorted (sym (ap keys_of slots ∙ seen_keys hidden es)) sorted;
      ordered = subst Sorted (sym (ap keys_of left)) (visible_sorted hidden es sorted);
      reserved = subst At (sym slots) (subst Reserved (sym reserved) (seen_reserved hidden es));
      bounded = omega arith;
    }

-- one change more
pub next_store : (s t : State) (c : Change) → IsStore s → AreSlots t
    → t.window ≡ last_of window_limit (s.window ++ c ∷ []) → t.first ≡ s.first → t.revision ≡ c.revision → c.revision ≡ s.revision + 1 → c.revision ≤ last_revision → IsStore t
unfolding Follow
next_store s t c h slots window first revision next last =
    let counted : length s.window ≡ min window_limit (s.revision - s.first) = h.counted in
    let begun : s.first ≤ s.revision = h.begun in
    let all : length (s.window ++ c ∷ []) ≡ length s.window + 1 = length-append s.window (c ∷ []) in
    let over : ℕ = length (s.window ++ c ∷ []) - window_limit in
    let len : length (drop over (s.window ++ c ∷ [])) ≡ length (s.window ++ c ∷ []) - over = length-drop over (s.window ++ c ∷ []) in
    let kept : length t.window ≡ length (s.window ++ c ∷ []) - over = ap length window ∙ len in
    let before : ℕ = s.revision - length s.window in
    let one : Follow revision_of (before + length s.window) (c ∷ []) = (omega arith, tt) in
    let more : Follow revision_of before (s.window ++ c ∷ []) = Follow_append revision_of before s.window (c ∷ []) h.numbered one in
    let rest : Follow revision_of (before + over) (drop over (s.window ++ c ∷ [])) = Follow_drop revision_of over before (s.window ++ c ∷ []) (omega arith) more in
    let from : before + over ≡ t.revision - length t.window = omega arith in
    let P : ℕ → Type 0 = λ n. Follow revision_of n (drop over (s.window ++ c ∷ [])) in
    let Q : List Change → Type 0 = λ cs. Follow revision_of (t.revision - length t.window) cs in
    record {
      slots = slots.slots;
      ordered = slots.ordered;
      reserved = slots.reserved;
      bounded = slots.bounded;
      numbered = subst Q (sym window) (subst P from rest);
      counted = omega arith;
      begun = omega arith;
      limited = omega arith;
    }

-- other slots for the same objects
pub moved_store : (s t : State) → IsStore s → AreSlots t
    → t.window ≡ s.window → t.first ≡ s.first → t.revision ≡ s.revision → IsStore t
moved_store s t h slots window first revision =
    let P : List Change → Type 0 = λ cs. Follow revision_of (s.revision - length cs) cs in
    let counted : length s.window ≡ min window_limit (s.revision - s.first) = h.counted in
    let begun : s.first ≤ s.revision = h.begun in
    let limited : s.revision ≤ last_revision = h.limited in
    let len : length t.window ≡ length s.window = ap length window in
    record {
      slots = slots.slots;
      ordered = slots.ordered;
      reserved = slots.reserved;
      bounded = slots.bounded;
      numbered = rw revision (subst P (sym window) h.numbered);
      counted = omega arith;
      begun = omega arith;
      limited = omega arith;
    }

-- they change nothing that a caller sees
pub moved_same : (s t u : State) → s ≡ u → objects t ≡ objects s → t.revision ≡ s.revision → t.window ≡ s.window → t.table ≡ s.table → t.first ≡ s.first → Same u t
moved_same s t u is same revision window table first = record {
  objects = same ∙ ap objects is;
  revision = revision ∙ ap (λ s. s.revision) is;
  window = window ∙ ap (λ s. s.window) is;
  table = table ∙ ap (λ s. s.table) is;
  first = first ∙ ap (λ s. s.first) is;
}

-- a prepared change
pub fits_one : (s : State) (cs : List Change) (c : Change) → cs ≡ c ∷ [] → c.revision ≡ s.revision + 1 → c.revision ≤ last_revision
    → (IsSome c.new → IsSome (lookup (is_key c.key) s.slots)) → Fits s cs
unfolding Follow HasSlot
fits_one s cs c is next last slot = let P : List Change → Type 0 = λ cs. Fits s cs in subst P (sym is) record {
  next = (next, tt);
  last = let k : s.revision + 1 ≤ last_revision = omega arith in k;
  slot = slot;
}

-- a prepared write that changes nothing
pub fits_none : (s : State) (cs : List Change) → IsStore s → cs ≡ [] → Fits s cs
unfolding Follow HasSlot
fits_none s cs h is = let P : List Change → Type 0 = λ cs. Fits s cs in subst P (sym is) record {
  next = tt;
  last = let k : s.revision ≤ last_revision = h.limited in omega arith;
  slot = tt;
}

-- a prepared removal
pub fits_removals : (s : State) (cs : List Change) → Follow revision_of s.revision cs → AreRemovals cs → s.revision + length cs ≤ last_revision → Fits s cs
fits_removals s cs next removals last = record { next = next; last = last; slot = removals_slot s.slots cs removals }

-- the first of several changes is the next one
pub fits_first : (s : State) (c : Change) (cs : List Change) → Fits s (c ∷ cs) → Fits s (c ∷ [])
unfolding Follow HasSlot
fits_first s c cs h = record {
  next = (h.next.0, tt);
  last = let k : s.revision + suc (length cs) ≤ last_revision = h.last in omega arith;
  slot = h.slot;
}

-- after the first change the others are the next ones
pub fits_rest : (s t : State) (c : Change) (cs : List Change) → Fits s (c ∷ cs) → AreRemovals cs → t.revision ≡ s.revision + 1 → Fits t cs
unfolding Follow
fits_rest s t c cs h removals revision = record {
  next = rw revision h.next.1;
  last = let k : s.revision + suc (length cs) ≤ last_revision = h.last in omega arith;
  slot = removals_slot t.slots cs removals;
}

-- a store as data, where nothing was changed
pub same_plain : (s t : State) → Same s t → plain_of t ≡ plain_of s
same_plain s t h = λ i. record {
  table = h.table i;
  objects = ap trees h.objects i;
  first = h.first i;
  revision = h.revision i;
}

-- the model that a store refines, where nothing was changed
pub same_stands : (s t : State) → Same s t → (history : List PlainChange) (p : Plain) → RefinesPlain s history p → RefinesPlain t history p
same_stands s t h history p stands = record {
  plain = same_plain s t h ∙ stands.plain;
  window = ap (map plain_change) h.window ∙ stands.window;
  made = stands.made;
  numbered = stands.numbered;
  counted = stands.counted;
}

-- a store at its start
pub opened_stands : (s : State) (table : List ResourceRow) (first : ℕ) → s.table ≡ table → s.slots ≡ [] → s.first ≡ first → s.revision ≡ first → s.window ≡ [] → RefinesPlain s [] (opened table first)
unfolding live placed_all Follow
opened_stands s table first is none begun at nothing = record {
  plain = λ i. record { table = is i; objects = ap (λ es. trees (live es)) none i; first = begun i; revision = at i };
  window = ap (map plain_change) nothing;
  made = refl;
  numbered = tt;
  counted = omega arith;
}

-- a store as data, after some changes
pub written_plain : (s t : State) (cs : List Change) → objects t ≡ placed_all (left_by cs) (objects s) → t.revision ≡ s.revision + length cs
    → t.table ≡ s.table → t.first ≡ s.first → plain_of t ≡ written (map plain_change cs) (plain_of s)
written_plain s t cs objs revision table first = λ i. record {
  table = table i;
  objects = (ap trees objs ∙ placed_all_trees cs (objects s)) i;
  first = first i;
  revision = (revision ∙ ap (λ n. s.revision + n) (sym (length-map cs plain_change))) i;
}

-- the model that a store refines, after some changes
pub written_stands : (s t : State) (cs : List Change) → objects t ≡ placed_all (left_by cs) (objects s) → t.revision ≡ s.revision + length cs
    → last_of window_limit t.window ≡ last_of window_limit (s.window ++ cs) → (length s.window ≤ window_limit → length t.window ≤ window_limit) → t.table ≡ s.table → t.first ≡ s.first → Follow revision_of s.revision cs
    → (history : List PlainChange) (p : Plain) → RefinesPlain s history p → RefinesPlain t (history ++ map plain_change cs) (written (map plain_change cs) p)
written_stands s t cs objs revision last kept table first next history p stands =
    let few : length (map plain_change s.window) ≡ length (last_of window_limit history) = ap length stands.window in
    let len : length (map plain_change s.window) ≡ length s.window = length-map s.window plain_change in
    let most : length (last_of window_limit history) ≡ length history - (length history - window_limit) = length-drop (length history - window_limit) history in
    let within : length t.window ≤ window_limit = kept (omega arith) in
    let window : t.window ≡ last_of window_limit (s.window ++ cs) = sym (last_none window_limit t.window within) ∙ last in
    let made : List PlainChange = map plain_change cs in
    let at : s.revision ≡ p.first + length history = ap (λ p. p.revision) stands.plain ∙ stands.counted in
    let P : ℕ → Type 0 = λ n. Follow (λ c. c.revision) n made in
    let all : length (history ++ made) ≡ length history + length made = length-append history made in
    let counted : p.revision ≡ p.first + length history = stands.counted in
    record {
      plain = written_plain s t cs objs revision table first ∙ ap (written made) stands.plain;
      window = ap (map plain_change) window ∙ last_map plain_change window_limit (s.window ++ cs) ∙ ap (last_of window_limit) (map-append plain_change s.window cs)
          ∙ ap (λ h. last_of window_limit (h ++ made)) stands.window ∙ last_last window_limit history made;
      made = ap (placed_all (trees_left_by made)) stands.made
          ∙ sym (ap (λ ws. placed_all ws []) (map-append (λ c. (c.key, c.new)) history made) ∙ placed_all_append (trees_left_by history) (trees_left_by made) []);
      numbered = Follow_append (λ c. c.revision) p.first history made stands.numbered (subst P at (Follow_map plain_change (λ c. c.revision) s.revision cs next));
      counted = omega arith;
    }

-- of the changes that are kept, those after a revision
pub window_after : (s : State) (limit count : ℕ) → IsStore s → s.first ≤ limit → count ≡ s.revision - limit → count ≤ window_limit
    → last_of count s.window ≡ filter (λ c. nat_lt limit c.revision) s.window
window_after s limit count h first is few =
    let counted : length s.window ≡ min window_limit (s.revision - s.first) = h.counted in
    let begun : s.first ≤ s.revision = h.begun in
    numbered_after revision_of limit count (s.revision - length s.window) s.window h.numbered (omega arith) (omega arith)

-- of all changes ever, those after a revision
pub history_after : (s : State) (limit count : ℕ) (history : List PlainChange) (p : Plain) → RefinesPlain s history p → s.first ≤ limit → count ≡ s.revision - limit → count ≤ window_limit
    → changes_after history p limit ≡ Ok (map plain_change (last_of count s.window))
unfolding changes_after
history_after s limit count history p stands first is few =
    let from : s.first ≡ p.first = ap (λ p. p.first) stands.plain in
    let at : s.revision ≡ p.revision = ap (λ p. p.revision) stands.plain in
    let counted : p.revision ≡ p.first + length history = stands.counted in
    let kept : map plain_change (last_of count s.window) ≡ last_of count history
    = last_map plain_change count s.window ∙ ap (last_of count) stands.window ∙ last_shorter count window_limit history few in
    let all : last_of count history ≡ filter (λ c. nat_lt limit c.revision) history
    = numbered_after (λ c. c.revision) limit count p.first history stands.numbered (omega arith) (omega arith) in
    rw (le-ltb limit (max (p.revision - window_limit) p.first) (omega arith)) (ap Ok (sym (kept ∙ all)))

-- some of them may be kept no longer
pub history_gone : (s : State) (limit : ℕ) (history : List PlainChange) (p : Plain) → RefinesPlain s history p → limit < max (s.revision - window_limit) s.first → changes_after history p limit ≡ Err tt
unfolding changes_after
history_gone s limit history p stands below =
    let from : s.first ≡ p.first = ap (λ p. p.first) stands.plain in
    let at : s.revision ≡ p.revision = ap (λ p. p.revision) stands.plain in
    rw (lt-ltb limit (max (p.revision - window_limit) p.first) (omega arith)) refl
