-- When the running machine refines the model.
use Rattle.std.specs.Prelude.{◌≡◌, ℕ, ◌+◌, zero, suc, Bool, true, false, List, [], ◌∷◌, ◌++◌, drop, Option, None, Some, Result, Ok, Err}
use Rattle.std.specs.declared.alloc.AllocError.{AllocError}
use Rattle.kapi_http.specs.Cut.{first}
use Rattle.kapi_http.specs.declared.message.HttpRequest.{HttpRequest}
use Rattle.kapi_http.specs.declared.inbox.FeedError.{FeedError}
use Rattle.kapi_http.specs.declared.inbox.FeedError.TheVariants as fed
use Rattle.kapi_model.specs.declared.identity.Identity.{Identity}
use Rattle.kapi_text.specs.ResultIs.{Fails}
use Rattle.kapi_aggregation.specs.Marks.{Covers, Tracked}
use Rattle.kapi_aggregation.specs.Roles.{roles_in}
use Rattle.kapi_answer.specs.Load.{model_of_fault, loads}
use Rattle.kapi_answer.specs.Watch.{PlainWatching, RefinesWatching}
use Rattle.kapi_answer.specs.declared.loading.LoadError.{LoadError}
use Rattle.kapi_answer.specs.declared.watch.Watching.{Watching}
use Rattle.kapi_policy.specs.declared.change.PolicyChange.{PolicyChange}
use Rattle.kapi_store.specs.Plain.{Plain, PlainChange, RefinesPlain, plain_of}
use Rattle.kapi_escalation.specs.Reading.{policy_changes}
use Rattle.std.specs.Map.{keys_of}
use Rattle.kapi_core.specs.Opening.{opening_keys}
use Rattle.kapi_policy.specs.Objects.{PolicyObjects}
use Rattle.kapi_store.specs.State.{State}
use Rattle.kapi_core.specs.declared.connection.Connection.{Connection}
use Rattle.kapi_core.specs.declared.event.ConnId.{ConnId}
use Rattle.kapi_core.specs.declared.event.Event.{Event}
use Rattle.kapi_core.specs.declared.event.Event.TheVariants as event
use Rattle.kapi_core.specs.declared.event.OpenError.{OpenError}
use Rattle.kapi_core.specs.declared.event.OpenError.TheVariants as refused
use Rattle.kapi_core.specs.declared.event.Answer.{Answer}
use Rattle.kapi_core.specs.declared.event.Answer.TheVariants as told
use Rattle.kapi_core.specs.declared.event.Output.{Output}
use Rattle.kapi_core.specs.declared.event.Turned.{Turned}
use Rattle.kapi_core.specs.Machine.{Link, Machine, changed, policy_of, step}
use Rattle.kapi_core.specs.Running.{Running}

-- so many whole requests come before the rest
unfoldable pub Serves : ℕ → List ℕ → List ℕ → Type 0
Serves zero bytes rest = rest ≡ bytes
Serves (suc k) bytes rest = (request : HttpRequest) × (first bytes ≡ Some (Ok request)) × Serves k (drop request.length bytes) rest

-- the same watch, if there is one, of all changes ever
abbrev pub AreWatching : List PlainChange → Plain → Option Watching → Option PlainWatching → Type 0
AreWatching history s None None = Unit {0}
AreWatching history s None (Some w) = ⊥
AreWatching history s (Some r) None = ⊥
AreWatching history s (Some r) (Some w) = RefinesWatching r history s w

-- a connection keeps what it was sent and did not serve, and its watch refines the model's
pub record IsLink (history : List PlainChange) (s : Plain) (c : Connection) (l : Link) : Type 0 where
  pub identity : c.identity ≡ l.identity
  pub kept : Serves l.served l.sent c.inbox.kept
  pub goes_on : c.inbox.ended ≡ false
  pub watching : AreWatching history s c.watching l.watching

-- the same connections by the same numbers
unfoldable pub AreLinks : List PlainChange → Plain → List (ℕ × Connection) → List (ℕ × Link) → Type 0
AreLinks history s [] [] = Unit {0}
AreLinks history s [] (p ∷ ps) = ⊥
AreLinks history s (e ∷ es) [] = ⊥
AreLinks history s (e ∷ es) (p ∷ ps) = (e.0 ≡ p.0) × IsLink history s e.1 p.1 × AreLinks history s es ps

-- the store with its window, the policy, the connections, the next number and the switch refine the model's; each of
-- the model's aggregated cluster roles is known, and marked if it differs from its union
pub record RefinesMachine (kept : State) (policy : PolicyObjects) (marks : Tracked) (es : List (ℕ × Connection)) (next : ℕ) (on : Bool) (m : Machine) : Type 0 where
  pub store : RefinesPlain kept m.changes m.store
  pub policy_is : policy ≡ policy_of m
  pub covers : Covers marks (roles_in m.store.objects)
  pub next_id : next ≡ m.next_id
  pub rechecks : on ≡ m.rechecks
  pub links : AreLinks m.changes m.store es m.links

-- the running machine refines the model
abbrev pub Refines : Running → Machine → Type 0
Refines core m = RefinesMachine core.store core.policy core.marks core.connections core.next_id core.rechecks m

-- a step as the model makes it, for every model that was refined
abbrev pub Makes : Running → Running → Event → Answer → Type 0
Makes old new event answer = (m : Machine) → Refines old m → (answer ≡ (step m event).0) × Refines new (step m event).1

-- nothing was changed: the new machine refines every model that the old one refined
abbrev pub Keeps : Running → Running → Type 0
Keeps old new = (m : Machine) → Refines old m → Refines new m

-- the answers that are given before any memory is taken
abbrev pub is_early : Answer → Bool
is_early told.TooMany = true
is_early told.Full = true
is_early told.Ended = true
is_early _ = false

-- out of memory: nothing was changed, and no early answer was due
abbrev pub RunsOut : Running → Running → Event → Type 0
RunsOut old new event = (m : Machine) → Refines old m → Refines new m × (is_early (step m event).0 ≡ false)

-- ---- what each call answers

-- an open answers the number, or that there are too many
abbrev pub Opens : Running → Running → Identity → Result ConnId OpenError → Type 0
Opens old new identity (Ok id) = Makes old new (event.Open identity) (told.Opened id)
Opens old new identity (Err refused.TooMany) = Makes old new (event.Open identity) told.TooMany
Opens old new identity (Err refused.Memory) = RunsOut old new (event.Open identity)

-- a feed answers that it is done, or why not
abbrev pub TakesIn : Running → Running → ConnId → List ℕ → Result (Unit {0}) FeedError → Type 0
TakesIn old new conn piece (Ok done) = Makes old new (event.Feed conn piece) told.Done
TakesIn old new conn piece (Err fed.Full) = Makes old new (event.Feed conn piece) told.Full
TakesIn old new conn piece (Err fed.Ended) = Makes old new (event.Feed conn piece) told.Ended
TakesIn old new conn piece (Err fed.Memory) = RunsOut old new (event.Feed conn piece)

-- what is sent, if anything is
abbrev pub sent_if : Option Output → Answer
sent_if None = told.Nothing
sent_if (Some output) = told.Sent output

-- a call that sends answers what is sent
abbrev pub Sends : Running → Running → Event → Result (Option Output) AllocError → Type 0
Sends old new event (Ok output) = Makes old new event (sent_if output)
Sends old new event (Err e) = RunsOut old new event

-- what a turn reports, if it was one
abbrev pub turned_if : Option Turned → Answer
turned_if None = told.Nothing
turned_if (Some turned) = told.Turned turned

-- a turn answers what it reports
abbrev pub Turns : Running → Running → Result (Option Turned) AllocError → Type 0
Turns old new (Ok turned) = Makes old new event.Turn (turned_if turned)
Turns old new (Err e) = RunsOut old new event.Turn

-- a step answers what the machine does
abbrev pub Steps : Running → Running → Event → Result Answer AllocError → Type 0
Steps old new event (Ok answer) = Makes old new event answer
Steps old new event (Err e) = RunsOut old new event

-- an object is loaded: its creation changes the machine, and the policy's changes are reported; or nothing is changed
abbrev pub Loads : Running → Running → List ℕ → Result (List PolicyChange) LoadError → Type 0
Loads old new text (Ok made) = (m : Machine) → Refines old m
    → (changes : List PlainChange) × (loads m.store text ≡ Ok changes) × (made ≡ policy_changes changes) × Refines new (changed changes m)
Loads old new text (Err e) = (m : Machine) → Refines old m → Fails (model_of_fault e) (loads m.store text) × Refines new m

-- one step more was made, and its answer put at the end
abbrev pub Pushes : Running → Running → Event → List Answer → List Answer → Type 0
Pushes old new event xs ys = (answer : Answer) × (ys ≡ xs ++ answer ∷ []) × Makes old new event answer

-- the five opening objects are stored, and took the five revisions after the first
abbrev pub HasOpened : Running → ℕ → Type 0
HasOpened core first = (keys_of (plain_of core.store).objects ≡ opening_keys) × (core.store.revision ≡ first + 5)
