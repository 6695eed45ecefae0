-- The open connections have numbers that rise, and an event touches the connection of one number alone.
use Rattle.std.proofs.Common.{◌≡◌, ℕ, List, [], ◌∷◌, Bool, true, false, cond, Option, Some, None, Result, Ok, Err, refl, sym, ap, ◌∙◌, subst}
use Rattle.std.specs.Prelude.{IsSome}
use Rattle.std.specs.BTreeMap.{is_at}
use Rattle.std.specs.Cmp.{Equal-is, eq_by_cmp_equiv, nat_cmp_total, tied_itself}
use Rattle.std.specs.List.{fold}
use Rattle.std.specs.List.Sorted.{IsStrictlySortedBy}
use Rattle.std.specs.Map.{keys_of, lookup}
use Rattle.std.specs.Ordering.{is_eq, nat_cmp}
use Rattle.std.specs.declared.cmp.Ordering.{Ordering}
use Rattle.std.specs.declared.cmp.Ordering.TheVariants.{Less, Equal, Greater}
use Rattle.std.proofs.lemmas.Map.{keys-set_value, lookup-set_value}
use Rattle.serde_json.specs.Data.{Data}
use Rattle.kapi_object.specs.Admission.{BodyFault, object_of}
use Rattle.kapi_aggregation.specs.Rewriting.{rewriting}
use Rattle.kapi_aggregation.specs.Roles.{roles_in}
use Rattle.kapi_aggregation.specs.Turns.{next}
use Rattle.kapi_aggregation.specs.declared.turn.Turn.{Turn}
use Rattle.kapi_answer.specs.Load.{LoadFault, loads}
use Rattle.kapi_http.specs.Cut.{first}
use Rattle.kapi_model.specs.declared.row.ResourceRow.{ResourceRow}
use Rattle.kapi_policy.proofs.Sets.{delete_keeps, delete_sets, put_keeps, put_sets}
use Rattle.kapi_store.specs.Faults.{StoreFault}
use Rattle.kapi_store.specs.Plain.{PlainChange, creation}
use Rattle.kapi_core.proofs.Acting.{nat_exact}
use Rattle.kapi_core.proofs.Effects.{Moves, effect, number_of}
use Rattle.kapi_core.proofs.Effects as effects
use Rattle.kapi_core.specs.Histories.{loaded, loaded_if, served}
use Rattle.kapi_core.specs.Machine.{Link, Machine, after, after_turn, link_at, new_link, step, turn_step, turned_by, with_link, with_new_link, without_link, with_rechecks}
use Rattle.kapi_core.specs.Opening.{OpeningObject, cluster_key, created_if, empty, opening, opening_objects, with_opening, written_if}
use Rattle.kapi_core.specs.declared.event.Event.{Event}

-- the numbers of the open connections rise
abbrev pub AreNumbered : Machine → Type 0
AreNumbered m = IsStrictlySortedBy nat_cmp (keys_of m.links)

-- the numbers still rise, and all connections but that of one number are as they were
pub record Touches (id : ℕ) (m n : Machine) : Type 0 where
  pub numbered : AreNumbered n
  pub others : (q : ℕ) → (q ≡ id → ⊥) → link_at q n ≡ link_at q m

-- ---- numbers

apart : (q k : ℕ) → (q ≡ k → ⊥) → is_eq (nat_cmp q k) ≡ false
apart q k never = by_case (nat_cmp q k) refl
  where
    by_case : (r : Ordering) → nat_cmp q k ≡ r → is_eq r ≡ false
    by_case Less is = refl
    by_case Equal is = absurd (never (nat_exact q k is))
    by_case Greater is = refl

own : (k : ℕ) → is_eq (nat_cmp k k) ≡ true
own k = ap is_eq (tied_itself nat_cmp_total k)

alike : (id x y : ℕ) → is_eq (nat_cmp id x) ≡ true → is_eq (nat_cmp id y) ≡ is_eq (nat_cmp x y)
alike id x y is = ap is_eq (nat_cmp_total.congr id x y ((Equal-is (nat_cmp id x)).0 is))

-- ---- one connection

found_set : (id : ℕ) (l : Link) (m : Machine) → IsSome (link_at id m) → (q : ℕ) → link_at q (with_link id l m) ≡ cond (is_eq (nat_cmp id q)) (Some l) (link_at q m)
found_set id l m there q = lookup-set_value (eq_by_cmp_equiv nat_cmp_total) (is_at (nat_cmp id)) (alike id) q l m.links there

pub found_own : (id : ℕ) (l : Link) (m : Machine) → IsSome (link_at id m) → link_at id (with_link id l m) ≡ Some l
found_own id l m there = found_set id l m there id ∙ ap (λ b. cond b (Some l) (link_at id m)) (own id)

pub found_new : (id : ℕ) (l : Link) (m : Machine) → link_at id (with_new_link id l m) ≡ Some l
found_new id l m = put_sets nat_cmp nat_cmp_total m.links id l id ∙ ap (λ b. cond b (Some l) (link_at id m)) (own id)

pub found_gone : (id : ℕ) (m : Machine) → AreNumbered m → link_at id (without_link id m) ≡ None
found_gone id m k = delete_sets nat_cmp nat_cmp_total m.links id k id ∙ ap (λ b. cond b None (link_at id m)) (own id)

untouched : (id : ℕ) (m n : Machine) → n.links ≡ m.links → AreNumbered m → Touches id m n
untouched id m n same k = record {
  numbered = let P : List (ℕ × Link) → Type 0 = λ es. IsStrictlySortedBy nat_cmp (keys_of es) in subst P (sym same) k;
  others = λ q never. ap (lookup (is_at (nat_cmp q))) same;
}

pub set_touches : (id : ℕ) (l : Link) (m : Machine) → IsSome (link_at id m) → AreNumbered m → Touches id m (with_link id l m)
set_touches id l m there k = record {
  numbered = subst (IsStrictlySortedBy nat_cmp) (sym (keys-set_value (is_at (nat_cmp id)) m.links l)) k;
  others = λ q never. found_set id l m there q ∙ ap (λ b. cond b (Some l) (link_at q m)) (apart id q (λ is. never (sym is)));
}

gone_touches : (id : ℕ) (m : Machine) → AreNumbered m → Touches id m (without_link id m)
gone_touches id m k = record {
  numbered = delete_keeps nat_cmp nat_cmp_total (is_at (nat_cmp id)) m.links k;
  others = λ q never. delete_sets nat_cmp nat_cmp_total m.links id k q ∙ ap (λ b. cond b None (link_at q m)) (apart q id never);
}

new_touches : (id : ℕ) (l : Link) (m : Machine) → AreNumbered m → Touches id m (with_new_link id l m)
new_touches id l m k = record {
  numbered = put_keeps nat_cmp nat_cmp_total m.links id l k;
  others = λ q never. put_sets nat_cmp nat_cmp_total m.links id l q ∙ ap (λ b. cond b (Some l) (link_at q m)) (apart q id never);
}

touched_on : (id : ℕ) (l m n : Machine) → Touches id l m → Touches id m n → Touches id l n
touched_on id l m n one other = record { numbered = other.numbered; others = λ q never. other.others q never ∙ one.others q never }

pub there : (id : ℕ) (m : Machine) (l : Link) → link_at id m ≡ Some l → IsSome (link_at id m)
there id m l at = let P : Option Link → Type 0 = IsSome in subst P (sym at) refl

pub turn_links : (m : Machine) → (turn_step m).1.links ≡ m.links
unfolding turn_step
turn_links m = by_due (next (roles_in m.store.objects))
  where
    by_write : (name : List ℕ) (r : Result (List PlainChange) StoreFault) → (after_turn name r m).1.links ≡ m.links
    by_write name (Ok changes) = refl
    by_write name (Err fault) = refl

    by_due : (due : Option Turn) → (turned_by due m).1.links ≡ m.links
    by_due None = refl
    by_due (Some turn) = by_write turn.name (rewriting turn m.store)

-- ---- events

pub event_touches : (m : Machine) (e : Event) → AreNumbered m → Touches (number_of m e) m (step m e).1
event_touches m e k = by_moves (effect m e).moves
  where
    id : ℕ
    id = number_of m e

    n : Machine
    n = (step m e).1

    -- what a machine touches, one with the same connections touches
    alike_touches : (l : Machine) → n.links ≡ l.links → Touches id m l → Touches id m n
    alike_touches l same t = touched_on id m l n t (untouched id l n same t.numbered)

    by_moves : Moves m e n → Touches id m n
    by_moves (effects.stays links next) = untouched id m n links k
    by_moves (effects.opens identity of links next) =
        let P : ℕ → Type 0 = λ q. Touches q m (with_new_link m.next_id (new_link identity) m) in
        alike_touches (with_new_link m.next_id (new_link identity) m) links (subst P (sym (ap (number_of m) of)) (new_touches m.next_id (new_link identity) m k))
    by_moves (effects.goes_on old new at same links next) = alike_touches (with_link id new m) links (set_touches id new m (there id m old at) k)
    by_moves (effects.ends links next) = alike_touches (without_link id m) links (gone_touches id m k)

-- ---- the machines that there are

events_numbered : (m : Machine) (es : List Event) → AreNumbered m → AreNumbered (after m es)
unfolding after
events_numbered m [] k = k
events_numbered m (e ∷ es) k = events_numbered (step m e).1 es (event_touches m e k).numbered

loaded_links : (m : Machine) (texts : List (List ℕ)) → (loaded m texts).links ≡ m.links
unfolding loaded
loaded_links m [] = refl
loaded_links m (text ∷ texts) = loaded_links (loaded_if m (loads m.store text)) texts ∙ by_load (loads m.store text)
  where
    by_load : (r : Result (List PlainChange) LoadFault) → (loaded_if m r).links ≡ m.links
    by_load (Ok changes) = refl
    by_load (Err fault) = refl

openings_links : (os : List OpeningObject) (m : Machine) → (fold with_opening m os).links ≡ m.links
unfolding with_opening
openings_links [] m = refl
openings_links (o ∷ os) m = openings_links os (with_opening m o) ∙ by_body (object_of o.row o.body)
  where
    by_write : (r : Result (List PlainChange) StoreFault) → (written_if m r).links ≡ m.links
    by_write (Ok changes) = refl
    by_write (Err fault) = refl

    by_body : (r : Result Data BodyFault) → (created_if m (cluster_key o.row o.name) r).links ≡ m.links
    by_body (Ok tree) = by_write (creation m.store (cluster_key o.row o.name) tree)
    by_body (Err fault) = refl

opening_numbered : (table : List ResourceRow) (first : ℕ) → AreNumbered (opening table first)
unfolding opening IsStrictlySortedBy
opening_numbered table first =
    let P : List (ℕ × Link) → Type 0 = λ es. IsStrictlySortedBy nat_cmp (keys_of es) in
    subst P (sym (openings_links opening_objects (empty table first))) tt

pub served_numbered : (on : Bool) (table : List ResourceRow) (first : ℕ) (texts : List (List ℕ)) (events : List Event) → AreNumbered (served on table first texts events)
served_numbered on table first texts events =
    let P : List (ℕ × Link) → Type 0 = λ es. IsStrictlySortedBy nat_cmp (keys_of es) in
    events_numbered (with_rechecks on (loaded (opening table first) texts)) events (subst P (sym (loaded_links (opening table first) texts)) (opening_numbered table first))
