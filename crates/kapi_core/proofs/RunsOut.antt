-- If a step is out of memory, no answer was due that is given before any memory is taken.
use Rattle.std.proofs.Common.{◌≡◌, ℕ, nat_lt, nat_le, ◌&&◌, true, false, List, length, Option, Result, Ok, Err, IsErr, refl, Bool}
use Rattle.std.specs.BTreeMap.{insert_entry}
use Rattle.std.specs.Ordering.{nat_cmp}
use Rattle.std.specs.declared.alloc.AllocError.{AllocError}
use Rattle.kapi_aggregation.specs.Marks.{Tracked}
use Rattle.kapi_model.specs.declared.identity.Identity.{Identity}
use Rattle.kapi_policy.specs.Objects.{PolicyObjects}
use Rattle.kapi_store.specs.State.{State}
use Rattle.kapi_core.specs.Machine.{Machine, step}
use Rattle.kapi_core.specs.Refines.{RefinesMachine, is_early, RunsOut, Sends, Steps, Turns}
use Rattle.kapi_core.specs.declared.connection.Connection.{Connection}
use Rattle.kapi_core.specs.declared.event.Answer.{Answer}
use Rattle.kapi_core.specs.declared.event.Answer.TheVariants as told
use Rattle.kapi_core.specs.declared.event.Output.{Output}
use Rattle.kapi_core.specs.declared.event.Turned.{Turned}
use Rattle.kapi_core.specs.declared.event.Event.{Event}
use Rattle.kapi_core.specs.declared.event.Event.TheVariants as event
use Rattle.kapi_core.specs.Running.{Running}
use Rattle.kapi_core.proofs.Steps.{machine_of, not_early, told_late, opened, new_connection}
use Rattle.kapi_core.specs.Limits.{last_connection, open_connections}

-- an error of a step
pub steps_err : (old new : Running) (e : Event) (r : Result Answer AllocError) → IsErr r → RunsOut old new e → Steps old new e r
steps_err old new e (Ok answer) h out = absurd (cc h)
steps_err old new e (Err error) h out = out

-- an error of a call that sends
pub sends_err : (old new : Running) (e : Event) (r : Result (Option Output) AllocError) → IsErr r → RunsOut old new e → Sends old new e r
sends_err old new e (Ok output) h out = absurd (cc h)
sends_err old new e (Err error) h out = out

-- an error of a turn
pub turns_err : (old new : Running) (r : Result (Option Turned) AllocError) → IsErr r → RunsOut old new event.Turn → Turns old new r
turns_err old new (Ok turned) h out = absurd (cc h)
turns_err old new (Err error) h out = out

-- if there is room for a connection, it is opened
pub room_is_late : (s : State) (o : PolicyObjects) (ms : Tracked) (es : List (ℕ × Connection)) (n : ℕ) (on : Bool) (m : Machine) (identity : Identity) → (nat_lt (length es) open_connections && nat_le n last_connection) ≡ true
    → RefinesMachine s o ms es n on m → is_early (step m (event.Open identity)).0 ≡ false
room_is_late s o ms es n on m identity room h =
    not_early s o ms es n on m (event.Open identity) h
    (λ cs k p v ps l. told_late (machine_of s cs n on ps) (event.Open identity) (told.Opened (record { 0 = n }))
    (opened s o ms es (insert_entry nat_cmp es n (new_connection identity)) n on identity room refl cs k p v ps l).0 refl)
