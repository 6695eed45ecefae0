-- The ports that sockets listen on stay, whatever becomes of their clients.
use Rattle.std.proofs.Common.{◌≡◌, ◌<◌, ℕ, zero, suc, List, [], ◌∷◌, Option, Some, inl, inr, length, slice_index_or, slice_set, ap, sym, subst, ◌∙◌, arith}
use Rattle.std.specs.Prelude.{HoldsAt}
use Rattle.kapi_aggregation.specs.Members.{Has}
use Rattle.kapi_model.specs.declared.identity.Identity.{Identity}
use Rattle.kapi_serve.specs.Listening.{CameByDoor, doors}
use Rattle.kapi_serve.specs.declared.listener.Listener.{Listener}
use Rattle.kapi_serve.specs.declared.port.PortEvent.{PortEvent}
use Rattle.kapi_serve.specs.declared.port.PortEvent.TheVariants as event

-- a listener is changed, and its port and identity are not
pub doors_kept : (ls : List Listener) (i : ℕ) (was is : Listener) → i < length ls → was ≡ slice_index_or ls i was → is.port ≡ was.port → is.identity ≡ was.identity
    → doors (slice_set ls i is) ≡ doors ls
doors_kept [] i was is below at port identity = absurd (omega arith)
doors_kept (l ∷ ls) zero was is below at port identity = ap (λ d. d ∷ doors ls) ((λ j. (port j, identity j)) ∙ ap (λ (k : Listener). (k.port, k.identity)) at)
doors_kept (l ∷ ls) (suc i) was is below at port identity = ap (λ ds. (l.port, l.identity) ∷ ds) (doors_kept ls i was is (omega arith) at port identity)

-- the identity of a listener is that of a port
has_door : (ls : List Listener) (i : ℕ) (identity : Identity) → i < length ls → HoldsAt (λ (l : Listener). identity ≡ l.identity) ls i → (port : ℕ) × Has (doors ls) (port, identity)
has_door [] i identity below at = absurd (omega arith)
has_door (l ∷ ls) zero identity below at = (l.port, inl (λ j. (l.port, sym (at l) j)))
has_door (l ∷ ls) (suc i) identity below at =
    let rest = has_door ls i identity (omega arith) at in
    (rest.0, inr rest.1)

same_identity : (a b : Identity) (s t : ℕ) (happened : PortEvent) → happened ≡ event.Opened s a → (◌≡◌ {A = Option PortEvent} (Some happened) (Some (event.Opened t b))) → b ≡ a
same_identity a b s t happened is said = cc

-- a client that came at a listener has the identity of a port
pub came_by : (ls os : List Listener) (i slot : ℕ) (happened : PortEvent) → i < length ls → doors ls ≡ doors os
    → HoldsAt (λ (l : Listener). happened ≡ event.Opened slot l.identity) ls i → CameByDoor os (Some happened)
came_by ls os i slot happened below same at s identity said =
    subst (λ ds. (port : ℕ) × Has ds (port, identity)) same
    (has_door ls i identity below (λ d. same_identity (slice_index_or ls i d).identity identity slot s happened (at d) said))

-- a client came by a port, if the ports are the same
pub came_same : (ls os : List Listener) (happened : Option PortEvent) → doors ls ≡ doors os → CameByDoor ls happened → CameByDoor os happened
came_same ls os happened same came s identity said = subst (λ ds. (port : ℕ) × Has ds (port, identity)) same (came s identity said)
