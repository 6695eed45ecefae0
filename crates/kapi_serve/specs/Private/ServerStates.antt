-- Moments of a server, as its parts see them.
use Rattle.std.specs.Prelude.{◌≡◌, ◌⊎◌, ◌-◌, ℕ, true, List, [], ◌∷◌, ◌++◌, Option, Some, Err, remove, set, ⊤}
use Rattle.std.specs.List.{HoldsAt}
use Rattle.kapi_core.specs.Refines.{Makes, TakesIn}
use Rattle.kapi_core.specs.Running.{Running}
use Rattle.kapi_core.specs.declared.event.Answer.TheVariants as answer
use Rattle.kapi_core.specs.declared.event.Event.TheVariants as event
use Rattle.kapi_publishing.specs.Boards.{Board}
use Rattle.kapi_http.specs.declared.inbox.FeedError.{FeedError}
use Rattle.kapi_policy.specs.declared.change.PolicyChange.{PolicyChange}
use Rattle.kapi_serve.specs.Acts.{ClientState}
use Rattle.kapi_serve.specs.Advances.{Advances, ServerState}
use Rattle.kapi_serve.specs.Ports.{Adds, Report, opened}
use Rattle.kapi_serve.specs.Private.Clients.{seat_of, seats_of}
use Rattle.kapi_serve.specs.declared.client.Client.{Client}
use Rattle.kapi_serve.specs.declared.clients.Clients.{Clients}
use Rattle.kapi_serve.specs.declared.port.Entry.{Entry}
use Rattle.kapi_serve.specs.declared.port.Entry.TheVariants as entry
use Rattle.kapi_serve.specs.declared.port.PortEvent.{PortEvent}
use Rattle.kapi_serve.specs.declared.publishing.Publishing.{Publishing}
use Rattle.kapi_serve.specs.declared.server.Server.{Server}

-- ---- moments

-- a moment from its parts
abbrev pub moment : Running → Board → Option (List PolicyChange) → List ClientState → Report → ServerState
moment core desk kept seats report = record { core = core; desk = desk; kept = kept; seats = seats; report = report }

-- a server at a moment
abbrev pub at : Running → Board → Server → Report → ServerState
at core desk server report = moment core desk server.publishing.kept (seats_of server.clients.list.items) report

-- the report of ports that are not asked
abbrev pub unasked : Report
unasked = record { tells = ⊤; history = [] }

-- a moment at which these are the clients, and no port is asked
abbrev pub stage : Running → Board → Publishing → List ClientState → ServerState
stage core desk publishing seats = moment core desk publishing.kept seats unasked

-- ---- what is done

-- a server went on from before an event of its ports
abbrev pub AdvancesAfter : PortEvent → ServerState → ServerState → Type 0
AdvancesAfter happened old new = (h : List Entry) → (old.report.tells → old.report.history ≡ h ++ opened (Some happened)) → Advances (record old { report = record old.report { history = h } }) new

-- something was done for a client, whichever the others are
abbrev pub AdvancesFor : (List ClientState → ServerState) → (List ClientState → ServerState) → Client → Client → Type 0
AdvancesFor old new c d = (front back : List ClientState) → Advances (old (front ++ seat_of c ∷ back)) (new (front ++ seat_of d ∷ back))

-- bytes that a client was owed were sent to it, whatever else there is
abbrev pub Writes : Client → Client → Report → Report → Type 0
Writes c d report later = (core : Running) (desk : Board) (kept : Option (List PolicyChange)) (front back : List ClientState)
    → Advances (moment core desk kept (front ++ seat_of c ∷ back) report) (moment core desk kept (front ++ seat_of d ∷ back) later)

-- the clients went on, whatever the desk has and is kept
abbrev pub Moves : Running → Running → Clients → Clients → Report → Report → Type 0
Moves old new cs ds report later = (desk : Board) (kept : Option (List PolicyChange))
    → Advances (moment old desk kept (seats_of cs.list.items) report) (moment new desk kept (seats_of ds.list.items) later)

-- the clients went on from before the last entry of the report
abbrev pub MovesAfter : Entry → Running → Running → Clients → Clients → Report → Report → Type 0
MovesAfter last old new cs ds report later = (h : List Entry) → (report.tells → report.history ≡ h ++ last ∷ []) → Moves old new cs ds (record report { history = h }) later

-- the client at a place left: its connection was closed and its slot ended
pub record Ends (index : ℕ) (old new : Running) (cs ds : Clients) (report later : Report) : Type 0 where
  pub list : ds.list.items ≡ remove cs.list.items index
  pub awake : ds.awake ≡ record cs.awake { start = cs.awake.start - 1 }
  pub closes : HoldsAt (λ c. Makes old new (event.Close c.id) answer.Done) cs.list.items index
  pub adds : HoldsAt (λ c. Adds report later (entry.Ended c.slot ∷ [])) cs.list.items index

-- the connection of the client at a place took a piece in
pub record Feeds (index : ℕ) (piece : List ℕ) (old new : Running) (cs ds : Clients) (report later : Report) : Type 0 where
  pub list : HoldsAt (λ c. ds.list.items ≡ set cs.list.items index (record c { fed = true })) cs.list.items index
  pub feeds : HoldsAt (λ c. Makes old new (event.Feed c.id piece) answer.Done) cs.list.items index
  pub adds : Adds report later []

-- the client at a place left, as its connection did not take a piece in
pub record Refuses (index : ℕ) (piece : List ℕ) (old new : Running) (cs ds : Clients) (report later : Report) : Type 0 where
  pub between : Running
  pub refused : FeedError
  pub takes : HoldsAt (λ c. TakesIn old between c.id piece (Err refused)) cs.list.items index
  pub ends : Ends index between new cs ds report later

-- a piece was taken in, or the client left
abbrev pub FeedsOrEnds : ℕ → List ℕ → Running → Running → Clients → Clients → Report → Report → Type 0
FeedsOrEnds index piece old new cs ds report later = Feeds index piece old new cs ds report later ⊎ Refuses index piece old new cs ds report later
