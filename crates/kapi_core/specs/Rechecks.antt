-- What is sent on watches whose rights are rechecked (beyond Kubernetes, which checks a watch's rights when it starts).
use Rattle.std.specs.Prelude.{◌≡◌, ◌⊎◌, true, false, List, [], ◌∷◌, Some}
use Rattle.kapi_answer.specs.Watch.{PlainWatching, ending_of, may_go_on, refused_status}
use Rattle.kapi_watch.specs.Watches.{pumped}
use Rattle.kapi_core.specs.Machine.{Machine, after, event_output, policy_of, shown_next, step}
use Rattle.kapi_core.specs.Pumps.{watch_on}
use Rattle.kapi_core.specs.declared.event.Answer.TheVariants as told
use Rattle.kapi_core.specs.declared.event.ConnId.{ConnId}
use Rattle.kapi_core.specs.declared.event.Event.{Event}
use Rattle.kapi_core.specs.declared.event.Event.TheVariants as event
use Rattle.kapi_core.specs.declared.event.Output.{Output}

-- what is sent where the rights of a watch were taken away: the 403 that refuses its request, as its last event
abbrev pub refusal_of : PlainWatching → Output
refusal_of w = event_output (ending_of w.close (refused_status w))

-- what an event sends on a watch is the refusal, or the roles and bindings allow the watch's identity to start it
abbrev pub IsAllowedNow : Machine → Event → Type 0
IsAllowedNow m e = (conn : ConnId) (w : PlainWatching) (output : Output) → e ≡ event.Pump conn → watch_on conn.0 m ≡ Some w → (step m e).0 ≡ told.Sent output
    → (may_go_on (policy_of m) w ≡ true) ⊎ (output ≡ refusal_of w)

-- each of a list of events sends on a watch only what is allowed at its moment
unfoldable pub SendsWhileAllowed : Machine → List Event → Type 0
SendsWhileAllowed m [] = Unit {0}
SendsWhileAllowed m (e ∷ es) = IsAllowedNow m e × SendsWhileAllowed (step m e).1 es

-- if rights are rechecked, every list of events sends on watches only what is allowed at its moment
abbrev pub RechecksWatches : Machine → List Event → Type 0
RechecksWatches m events = m.rechecks ≡ true → SendsWhileAllowed m events

-- no event turns the switch
abbrev pub StaysSwitched : Type 0
StaysSwitched = (m : Machine) (events : List Event) → (after m events).rechecks ≡ m.rechecks

-- if rights are not rechecked, a watch shows what is due to it and nothing else
abbrev pub ShowsWhatIsDue : Type 0
ShowsWhatIsDue = (m : Machine) (w : PlainWatching) → m.rechecks ≡ false → shown_next m w ≡ pumped m.changes m.store w.watch
