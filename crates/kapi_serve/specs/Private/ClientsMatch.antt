-- What the loop keeps of its clients, and how that suits the connections of the machine.
use Rattle.std.specs.Prelude.{◌≡◌, ◌⊎◌, ◌+◌, ◌<◌, ◌≤◌, ◌%◌, ℕ, Bool, true, false, List, [], ◌∷◌, length, Option, Some, None, is_some}
use Rattle.std.specs.List.{AllByRecursion, HoldsAt}
use Rattle.std.specs.List.Sorted.{IsStrictlySortedBy}
use Rattle.std.specs.Map.{keys_of}
use Rattle.std.specs.Ordering.{nat_cmp}
use Rattle.kapi_core.specs.Fingerprints.{fingerprint_on, is_among, is_concerned}
use Rattle.kapi_core.specs.Machine.{Link, Machine, link_at, serve_step}
use Rattle.kapi_core.specs.Refines.{Makes, Refines}
use Rattle.kapi_core.specs.Running.{Running}
use Rattle.kapi_core.specs.declared.event.Answer.TheVariants as answer
use Rattle.kapi_core.specs.declared.event.Event.TheVariants as event
use Rattle.kapi_serve.specs.Private.Clients.{seat_of}
use Rattle.kapi_serve.specs.Private.Pieces.{IsCounted, owed}
use Rattle.kapi_serve.specs.Rests.{AreAtRest, Rests}
use Rattle.kapi_serve.specs.declared.clients.Awake.{Awake}
use Rattle.kapi_serve.specs.declared.client.Client.{Client}
use Rattle.kapi_serve.specs.declared.client.Phase.TheVariants as phase
use Rattle.kapi_serve.specs.declared.clients.Clients.{Clients}
use Rattle.kapi_serve.specs.declared.progress.Progress.{Progress}
use Rattle.kapi_serve.specs.declared.progress.Progress.TheVariants as progress

-- ---- one client

-- the connection has no whole request that may be answered now, whatever the machine has besides
abbrev pub HasNoRequest : ℕ → Option Link → Type 0
HasNoRequest id l = (m : Machine) → (serve_step id l m).0 ≡ answer.Nothing

-- what is kept of a client suits its connection
pub record MatchesConnection (m : Machine) (c : Client) : Type 0 where
  pub unfed : c.fed ≡ false → HasNoRequest c.id.0 (link_at c.id.0 m)
  pub closed : c.phase ≡ phase.Closed → link_at c.id.0 m ≡ None
  pub ending : c.phase ≡ phase.Ending → c.fed ≡ true
  pub counted : IsCounted c.pending
  pub below : c.id.0 < m.next_id
  pub watching : c.watching ≡ fingerprint_on (link_at c.id.0 m)

-- the numbers of the open connections rise
abbrev pub IsNumbered : Machine → Type 0
IsNumbered m = IsStrictlySortedBy nat_cmp (keys_of m.links)

-- no connection has changed but the one of this number
pub record GoesOn (id : ℕ) (m n : Machine) : Type 0 where
  pub numbered : IsNumbered n
  pub others : (q : ℕ) → (q ≡ id → ⊥) → link_at q n ≡ link_at q m
  pub next : m.next_id ≤ n.next_id

-- no connection has changed
pub record Stays (m n : Machine) : Type 0 where
  pub links : n.links ≡ m.links
  pub next : m.next_id ≤ n.next_id

-- the machine went on, and none of its connections has changed
abbrev pub PassesBy : Running → Running → Type 0
PassesBy old new = (m : Machine) → Refines old m → (n : Machine) × Refines new n × Stays m n

-- something was done for a client, and what is kept of the client suits its connection again
abbrev pub Tends : Running → Running → Client → Client → Type 0
Tends old new c d = (m : Machine) → Refines old m → IsNumbered m → MatchesConnection m c → (n : Machine) × Refines new n × GoesOn c.id.0 m n × (d.id ≡ c.id) × MatchesConnection n d

-- a client has the same connection, phase, feeding and watch as before; it may have accepted bytes
pub record Keeps (c d : Client) : Type 0 where
  pub id : d.id ≡ c.id
  pub phase : d.phase ≡ c.phase
  pub fed : d.fed ≡ c.fed
  pub watching : d.watching ≡ c.watching
  pub counted : IsCounted c.pending → IsCounted d.pending

-- nothing is offered to a client or sent to it
pub record Waits (c d : Client) : Type 0 where
  pub seat : seat_of d ≡ seat_of c
  pub phase : d.phase ≡ c.phase
  pub blocked : d.blocked ≡ c.blocked
  pub count : d.pending.count ≡ c.pending.count

-- a client whose bytes have ended is closed, and another stays
abbrev pub Finishes : Running → Running → Client → Client → Progress → Type 0
Finishes old new c d result = ((c.phase ≡ phase.Ending) × (result ≡ progress.Made) × Makes old new (event.Close c.id) answer.Done × (d ≡ record c { phase = phase.Closed; watching = None }))
    ⊎ ((c.phase ≡ phase.Ending → ⊥) × (result ≡ progress.Still) × (new ≡ old) × (d ≡ c))

-- a client's bytes were looked at, or it is closed, or too much is owed to it
abbrev pub IsServed : Client → Type 0
IsServed c = c.pending.count < 1048576 → (c.fed ≡ false) ⊎ (c.phase ≡ phase.Closed)

-- ---- all clients

-- nothing can be done at a client before its slot reports something, or the objects of the machine change
pub record IsQuiet (c : Client) : Type 0 where
  pub phase : c.phase ≡ phase.Open
  pub fed : c.pending.count < 1048576 → c.fed ≡ false
  pub shown : c.pending.count < 1048576 → is_some c.watching ≡ true → c.shown ≡ true
  pub owed : c.blocked ≡ false → owed c.pending ≡ []

-- if a change after the revision may concern the watch of a client, the watch is marked as having something to show
abbrev pub IsRoused : Machine → ℕ → Client → Type 0
IsRoused m revision c = is_concerned m c.id.0 revision ≡ true → c.shown ≡ false

abbrev pub AreRoused : Machine → ℕ → List Client → Type 0
AreRoused m revision cs = (i : ℕ) → i < length cs → HoldsAt (λ c. IsRoused m revision c) cs i

-- there is a watch, and the list has its fingerprint, if there is a list
abbrev pub is_called : Option (List ℕ) → Option ℕ → Bool
is_called None watching = is_some watching
is_called (Some numbers) watching = is_among numbers watching

-- the watch of each client before a place is marked as having something to show, if it is called
abbrev pub AreCalled : Option (List ℕ) → ℕ → List Client → Type 0
AreCalled concerned place cs = (i : ℕ) → i < place → HoldsAt (λ c. is_called concerned c.watching ≡ true → c.shown ≡ false) cs i

-- each number that is called is marked by its remainder
abbrev pub AreMarked : Option (List ℕ) → List Bool → Type 0
AreMarked concerned marks = (n : ℕ) → is_called concerned (Some n) ≡ true → HoldsAt (λ mark. mark ≡ true) marks (n % 64)

-- a client that has just connected
pub record IsNew (c : Client) : Type 0 where
  pub quiet : IsQuiet c
  pub counted : IsCounted c.pending
  pub unwatched : c.watching ≡ None

-- the numbers of the connections rise
unfoldable pub Rise : List Client → Type 0
Rise [] = Unit {0}
Rise (c ∷ cs) = AllByRecursion (λ d. c.id.0 < d.id.0) cs × Rise cs

-- a place is one of those that are awake
abbrev pub IsWithin : Awake → ℕ → Type 0
IsWithin awake place = (awake.start ≤ place) × (place < awake.end)

-- a client outside of the places that are awake is quiet
abbrev pub AreAsleep : Awake → List Client → Type 0
AreAsleep awake cs = (i : ℕ) → i < length cs → IsWithin awake i ⊎ HoldsAt (λ c. IsQuiet c) cs i

-- what is kept of the clients suits their connections, which are in order, and those that sleep are quiet
pub record AllMatch (m : Machine) (cs : List Client) (awake : Awake) : Type 0 where
  pub numbered : IsNumbered m
  pub suit : AllByRecursion (λ c. MatchesConnection m c) cs
  pub rise : Rise cs
  pub asleep : AreAsleep awake cs

-- what is kept of the clients that are served suits their connections
abbrev pub ClientsMatch : Machine → Clients → Type 0
ClientsMatch m cs = AllMatch m cs.list.items cs.awake

-- the machine goes on, and what is kept of the clients suits it again
abbrev pub ClientsMatchAfter : Running → Running → Clients → Clients → Type 0
ClientsMatchAfter old new cs ds = (m : Machine) → Refines old m → ClientsMatch m cs → (n : Machine) × Refines new n × ClientsMatch n ds

-- each client before a place rests
abbrev pub RestBefore : Machine → ℕ → List Client → Type 0
RestBefore m place cs = (i : ℕ) → i < place → i < length cs → HoldsAt (λ c. Rests m c) cs i

-- the client at a place was visited; if nothing could be done, it rests, as those before it do
abbrev pub Visits : Running → Running → Clients → Clients → ℕ → Type 0 → Type 0
Visits old new cs ds place still = (m : Machine) → Refines old m → ClientsMatch m cs
    → (n : Machine) × Refines new n × ClientsMatch n ds × (still → RestBefore m place cs.list.items → RestBefore n (place + 1) ds.list.items)

-- the clients were gone over; if nothing could be done, all rest
abbrev pub Settles : Running → Running → Clients → Clients → Type 0 → Type 0
Settles old new cs ds still = (m : Machine) → Refines old m → ClientsMatch m cs → (n : Machine) × Refines new n × ClientsMatch n ds × (still → AreAtRest n ds.list.items)
