-- What the server makes of the machine and of the desk.
use Rattle.std.specs.Prelude.{◌≡◌, ◌≤◌, true, List, [], ◌∷◌, ◌++◌, length, Option}
use Rattle.kapi_policy.specs.declared.change.PolicyChange.{PolicyChange}
use Rattle.kapi_aggregation.specs.Roles.{roles_in}
use Rattle.kapi_core.specs.Gains.{NobodyGains, NobodyGainsDuring, acting_in}
use Rattle.kapi_core.specs.Machine.{Machine, after, answers}
use Rattle.kapi_core.specs.Running.{Running}
use Rattle.kapi_core.specs.Refines.{Refines}
use Rattle.kapi_core.specs.Telling.{changes_told}
use Rattle.kapi_core.specs.declared.event.Answer.{Answer}
use Rattle.kapi_publishing.specs.Boards.{Board}
use Rattle.kapi_serve.specs.Account.{Account, Made}
use Rattle.kapi_serve.specs.Acts.{Act, Follows, ClientState, answers_of, entries_in, events_of, made_in}
use Rattle.kapi_serve.specs.Policies.{PublishesPolicies}
use Rattle.kapi_serve.specs.Ports.{Adds, Report}
use Rattle.kapi_publishing.specs.Steps.{step_of}
use Rattle.kapi_serve.specs.Publishes.{Publishes}
use Rattle.kapi_serve.specs.Rechecked.{WereAllowed}
use Rattle.kapi_serve.specs.declared.port.Entry.{Entry}

-- the events were made on the machine, and answered as they say
abbrev pub Runs : Running → Running → List Made → Type 0
Runs old new made = (m : Machine) → Refines old m → (answers_of made ≡ answers m (events_of made)) × Refines new (after m (events_of made))

-- the step of policy changes in an answer
abbrev pub step_in : Answer → List (List PolicyChange)
step_in a = step_of (changes_told a)

-- the steps of policy changes in answers, in order
unfoldable pub steps_in : List Answer → List (List PolicyChange)
steps_in [] = []
steps_in (a ∷ rest) = step_in a ++ steps_in rest

-- the state of a server: the machine, what its desk has, the step that is kept, the clients, and what the ports report
pub record ServerState : Type 1 where
  pub core : Running
  pub desk : Board
  pub kept : Option (List PolicyChange)
  pub seats : List ClientState
  pub report : Report

-- acts led from one state to the other, and the policy steps of their events were appended
pub record Advances (old new : ServerState) : Type 0 where
  pub acts : List Act
  pub runs : Runs old.core new.core (made_in acts)
  pub shows : Publishes old.desk new.desk old.kept new.kept (steps_in (answers_of (made_in acts)))
  pub follows : Follows old.seats acts new.seats
  pub told : Adds old.report new.report (entries_in acts)

-- what a server did: its events are one list, after which the machine is that of their run; the desk has published the
-- steps of their answers in order, all but at most the last, so what it publishes is a policy that the machine had; and
-- where the ports report what they read and wrote, the bytes and the events are accounted for; nobody gains by the
-- policy that the machine has at the end, nor from any moment on by the events that follow; if the rights of watches are
-- rechecked, what was sent on each watch was allowed at that moment
pub record Serves (old new : Running) (board next : Board) (report later : Report) : Type 0 where
  pub made : List Made
  pub runs : Runs old new made
  pub opening : next.opening ≡ board.opening
  pub left : List (List PolicyChange)
  pub published : next.list ++ left ≡ board.list ++ steps_in (answers_of made)
  pub prompt : length left ≤ 1
  pub policies : PublishesPolicies old board next (events_of made)
  pub entries : List Entry
  pub told : later.tells → later.history ≡ report.history ++ entries
  pub account : (m : Machine) → Refines old m → Account entries made
  pub gains : (m : Machine) → Refines old m → NobodyGains (roles_in m.store.objects) (acting_in m (events_of made)) old.policy new.policy
  pub always : (m : Machine) → Refines old m → NobodyGainsDuring m (events_of made)
  pub rechecked : (m : Machine) → Refines old m → m.rechecks ≡ true → WereAllowed m made
