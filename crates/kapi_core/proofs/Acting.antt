-- An identity that acts in a list of events is on a connection served by one of them.
use Rattle.std.proofs.Common.{◌≡◌, ◌⊎◌, inl, inr, ℕ, List, [], ◌∷◌, Bool, true, false, ◌&&◌, cond, if◌then◌else◌, length, nat_le, nat_lt, Option, Some, None, refl, sym, ap, ◌∙◌, subst}
use Rattle.std.specs.BTreeMap.{is_at}
use Rattle.std.specs.Cmp.{Equal-is, ranked}
use Rattle.std.specs.Map.{lookup, remove_entry, set_value}
use Rattle.std.specs.Ordering.{nat_cmp}
use Rattle.std.specs.declared.cmp.Ordering.TheVariants.{Equal}
use Rattle.kapi_model.specs.declared.identity.Identity.{Identity}
use Rattle.kapi_aggregation.specs.Turns.{next}
use Rattle.kapi_escalation_laws.proofs.Elements.{has_either}
use Rattle.kapi_escalation_laws.proofs.Entries.{delete_has, found_in, put_has}
use Rattle.kapi_aggregation.specs.Members.{Has}
use Rattle.kapi_core.proofs.Effects.{Moves, effect, number_of}
use Rattle.kapi_core.proofs.Effects as effects
use Rattle.kapi_core.specs.declared.event.Answer.{Answer}
use Rattle.kapi_core.specs.declared.event.Answer.TheVariants as told
use Rattle.kapi_core.specs.declared.event.ConnId.{ConnId}
use Rattle.kapi_core.specs.declared.event.Event.{Event}
use Rattle.kapi_core.specs.declared.event.Event.TheVariants as event
use Rattle.kapi_core.specs.Gains.{IsConnected, IsServed, acting_by, acting_in, identity_on}
use Rattle.kapi_core.specs.Limits.{last_connection, open_connections}
use Rattle.kapi_core.specs.Machine.{Link, Machine, link_at, new_link, open_step, step, with_link, with_new_link}

-- a connection of the number was there for the identity
abbrev WasThere : List (ℕ × Link) → ℕ → Identity → Type 0
WasThere es id who = (l : Link) × (Has es (id, l) × (l.identity ≡ who))

-- ---- entries

pub nat_exact : (a b : ℕ) → nat_cmp a b ≡ Equal → a ≡ b
nat_exact a b is = ranked a b Equal (sym is)

equal_number : (a b : ℕ) → is_at (nat_cmp a) b ≡ true → a ≡ b
equal_number a b is = nat_exact a b ((Equal-is (nat_cmp a b)).0 is)

-- the link that a number finds is there
found_there : (id : ℕ) (m : Machine) (l : Link) → link_at id m ≡ Some l → WasThere m.links id l.identity
found_there id m l found =
    let entry = found_in (is_at (nat_cmp id)) m.links l found in
    let P : ℕ → Type 0 = λ k. Has m.links (k, l) in
    (l, (subst P (sym (equal_number id entry.0 entry.1.1)) entry.1.0, refl))

later : (x : ℕ × Link) (es : List (ℕ × Link)) (id : ℕ) (who : Identity) → WasThere es id who → WasThere (x ∷ es) id who
later x es id who was = (was.0, (inr was.1.0, was.1.1))

-- another link of the same identity takes the place of one
set_there : (test : ℕ → Bool) (es : List (ℕ × Link)) (old new : Link) → lookup test es ≡ Some old → new.identity ≡ old.identity
    → (id : ℕ) (l : Link) → Has (set_value test es new) (id, l) → WasThere es id l.identity
set_there test [] old new found same id l has = absurd has
set_there test (x ∷ es) old new found same id l has =
    by_test (test x.0) found (λ rest there. later x es id l.identity (set_there test es old new rest same id l there)) has
  where
    by_test : (b : Bool) → cond b (Some x.1) (lookup test es) ≡ Some old → (lookup test es ≡ Some old → Has (set_value test es new) (id, l) → (k : Link) × (Has (x ∷ es) (id, k) × (k.identity ≡ l.identity)))
        → Has (cond b ((x.0, new) ∷ es) (x ∷ set_value test es new)) (id, l) → (k : Link) × (Has (x ∷ es) (id, k) × (k.identity ≡ l.identity))
    by_test true is rest (inl at) =
        let number : x.0 ≡ id = ap (λ (e : ℕ × Link). e.0) at in
        let link : new ≡ l = ap (λ (e : ℕ × Link). e.1) at in
        let before : x.1 ≡ old = cc is in
        (x.1, (inl (λ i. (number i, x.1)), ap (λ (k : Link). k.identity) before ∙ sym same ∙ ap (λ (k : Link). k.identity) link))
    by_test true is rest (inr there) = (l, (inr there, refl))
    by_test false is rest (inl at) = (l, (inl at, refl))
    by_test false is rest (inr there) = rest is there

-- ---- events

-- the event opened the connection of the number for the identity
abbrev Opens : Machine → Event → ℕ → Identity → Type 0
Opens m e id who = (e ≡ event.Open who) × ((step m e).0 ≡ told.Opened (record { 0 = id }))

-- the links after an event were there for the same identities, or the event opened them
abbrev LinksCameBy : Machine → Event → List (ℕ × Link) → Type 0
LinksCameBy m e new = (id : ℕ) (l : Link) → Has new (id, l) → WasThere m.links id l.identity ⊎ Opens m e id l.identity

kept : (m : Machine) (e : Event) → LinksCameBy m e m.links
kept m e id l has = inl (l, (has, refl))

opened_came_by : (m : Machine) (identity : Identity) → LinksCameBy m (event.Open identity) (step m (event.Open identity)).1.links
unfolding step open_step
opened_came_by m identity = by_room (nat_lt (length m.links) open_connections && nat_le m.next_id last_connection)
  where
    opened : Bool → Answer × Machine
    opened b = if b then (told.Opened (record { 0 = m.next_id }), with_new_link m.next_id (new_link identity) m) else (told.TooMany, m)

    by_room : (b : Bool) (id : ℕ) (l : Link) → Has (opened b).1.links (id, l)
        → WasThere m.links id l.identity ⊎ ((event.Open identity ≡ event.Open l.identity) × ((opened b).0 ≡ told.Opened (record { 0 = id })))
    by_room true id l has = by_put (put_has nat_cmp nat_exact m.links m.next_id (new_link identity) (id, l) has)
      where
        by_put : (◌≡◌ {A = ℕ × Link} (m.next_id, new_link identity) (id, l)) ⊎ Has m.links (id, l)
            → WasThere m.links id l.identity ⊎ ((event.Open identity ≡ event.Open l.identity) × (◌≡◌ {A = Answer} (told.Opened (record { 0 = m.next_id })) (told.Opened (record { 0 = id }))))
        by_put (inl is) = inr (ap (λ (e : ℕ × Link). event.Open e.1.identity) is, ap (λ (e : ℕ × Link). told.Opened (record { 0 = e.0 })) is)
        by_put (inr has) = inl (l, (has, refl))
    by_room false id l has = inl (l, (has, refl))

set_came_by : (m : Machine) (e : Event) (conn : ℕ) (old new : Link) → link_at conn m ≡ Some old → new.identity ≡ old.identity → LinksCameBy m e (with_link conn new m).links
set_came_by m e conn old new found same id l has = inl (set_there (is_at (nat_cmp conn)) m.links old new found same id l has)

removed_came_by : (m : Machine) (e : Event) (test : ℕ → Bool) (new : List (ℕ × Link)) → LinksCameBy m e new → LinksCameBy m e (remove_entry test new)
removed_came_by m e test new goes id l has = goes id l (delete_has test new (id, l) has)

event_came_by : (m : Machine) (e : Event) → LinksCameBy m e (step m e).1.links
event_came_by m e = by_moves (effect m e).moves
  where
    P : List (ℕ × Link) → Type 0
    P = LinksCameBy m e

    by_moves : Moves m e (step m e).1 → LinksCameBy m e (step m e).1.links
    by_moves (effects.stays links next) = subst P (sym links) (kept m e)
    by_moves (effects.opens identity of links next) =
        let Q : Event → Type 0 = λ f. LinksCameBy m f (step m f).1.links in subst Q (sym of) (opened_came_by m identity)
    by_moves (effects.goes_on old new at same links next) = subst P (sym links) (set_came_by m e (number_of m e) old new at same)
    by_moves (effects.ends links next) = subst P (sym links) (removed_came_by m e (is_at (nat_cmp (number_of m e))) m.links (kept m e))

-- ---- who acts

-- the identity acts by the first event
served_first : (m : Machine) (e : Event) (es : List Event) (who : Identity) → Has (acting_by m e) who → IsServed m (e ∷ es) who
served_first m (event.Open identity) es who has = absurd has
served_first m (event.Feed conn piece) es who has = absurd has
served_first m (event.Serve conn) es who has = by_link (link_at conn.0 m) refl has
  where
    connected : (l : Link) → l.identity ≡ who → WasThere m.links conn.0 l.identity → IsConnected m (event.Serve conn ∷ es) conn who
    connected l is was = inl (was.0, (was.1.0, was.1.1 ∙ is))

    by_link : (o : Option Link) → link_at conn.0 m ≡ o → Has (identity_on o) who → IsServed m (event.Serve conn ∷ es) who
    by_link None at never = absurd never
    by_link (Some l) at (inl is) = record { conn = conn; named = inl refl; connected = connected l is (found_there conn.0 m l at) }
    by_link (Some l) at (inr never) = absurd never
served_first m (event.Pump conn) es who has = absurd has
served_first m event.Turn es who has = absurd has
served_first m (event.Close conn) es who has = absurd has

-- a connection behind the first event
connected_before : (m : Machine) (e : Event) (es : List Event) (conn : ConnId) (who : Identity) → IsConnected (step m e).1 es conn who → IsConnected m (e ∷ es) conn who
connected_before m e es conn who (inr opened) = inr (inr opened)
connected_before m e es conn who (inl there) = by_event (event_came_by m e conn.0 there.0 there.1.0)
  where
    by_event : WasThere m.links conn.0 there.0.identity ⊎ Opens m e conn.0 there.0.identity → IsConnected m (e ∷ es) conn who
    by_event (inl was) = inl (was.0, (was.1.0, was.1.1 ∙ there.1.1))
    by_event (inr opens) = inr (inl (opens.0 ∙ ap event.Open there.1.1, opens.1))

pub acts_served : (m : Machine) (es : List Event) (who : Identity) → Has (acting_in m es) who → IsServed m es who
unfolding acting_in
acts_served m [] who has = absurd has
acts_served m (e ∷ es) who has = by_place (has_either (acting_by m e) (acting_in (step m e).1 es) who has) (λ there. acts_served (step m e).1 es who there)
  where
    by_place : Has (acting_by m e) who ⊎ Has (acting_in (step m e).1 es) who → (Has (acting_in (step m e).1 es) who → IsServed (step m e).1 es who) → IsServed m (e ∷ es) who
    by_place (inl here) rest = served_first m e es who here
    by_place (inr there) rest =
        let one = rest there in record { conn = one.conn; named = inr one.named; connected = connected_before m e es one.conn who one.connected }
