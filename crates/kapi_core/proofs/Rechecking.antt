-- The switch by which the rights of watches are rechecked, over events.
use Rattle.std.proofs.Common.{◌≡◌, ◌⊎◌, inl, inr, ℕ, Bool, true, false, not, ◌&&◌, if◌then◌else◌, List, [], ◌∷◌, Some, option_map, refl, sym, ap, ◌∙◌}
use Rattle.kapi_answer.specs.Watch.{PlainWatching, event_reply_of, may_go_on, rechecked}
use Rattle.kapi_watch.specs.Shown.{Refused}
use Rattle.kapi_watch.specs.Watches.{pumped}
use Rattle.kapi_core.specs.Machine.{Link, Machine, after, link_at, policy_of, pump_shown, pump_step, shown_next, step}
use Rattle.kapi_core.specs.Pumps.{watch_on}
use Rattle.kapi_core.specs.Rechecks.{IsAllowedNow, RechecksWatches, SendsWhileAllowed, ShowsWhatIsDue, StaysSwitched, refusal_of}
use Rattle.kapi_core.specs.declared.event.Answer.{Answer}
use Rattle.kapi_core.specs.declared.event.Answer.TheVariants as told
use Rattle.kapi_core.specs.declared.event.ConnId.{ConnId}
use Rattle.kapi_core.specs.declared.event.Event.{Event}
use Rattle.kapi_core.specs.declared.event.Output.{Output}
use Rattle.kapi_core.proofs.Effects.{effect}
use Rattle.kapi_core.proofs.Pumps.{pump_is}

-- ---- the switch stays

pub stays_switched : StaysSwitched
unfolding after
stays_switched m [] = refl
stays_switched m (e ∷ es) = stays_switched (step m e).1 es ∙ (effect m e).rechecks

-- ---- what is shown

pub off_shows_what_is_due : ShowsWhatIsDue
unfolding rechecked
off_shows_what_is_due m w off =
    ap (λ on. if on && not (may_go_on (policy_of m) w) then Some Refused else pumped m.changes m.store w.watch) off

-- if a watch is not allowed any more, the refusal is shown
on_shows : (m : Machine) (w : PlainWatching) → m.rechecks ≡ true → may_go_on (policy_of m) w ≡ false → shown_next m w ≡ Some Refused
unfolding rechecked
on_shows m w on denied =
    ap (λ look. if look && not (may_go_on (policy_of m) w) then Some Refused else pumped m.changes m.store w.watch) on
    ∙ ap (λ may. if not may then Some Refused else pumped m.changes m.store w.watch) denied

same_output : (x y : Output) → told.Sent x ≡ told.Sent y → x ≡ y
same_output x y is = cc

refused_sends : (id : ℕ) (m : Machine) (l : Link) (w : PlainWatching) (output : Output)
    → (pump_shown id l w (option_map (event_reply_of m.store w) (Some Refused)) m).0 ≡ told.Sent output → output ≡ refusal_of w
unfolding pump_shown event_reply_of
refused_sends id m l w output is = sym (same_output (refusal_of w) output is)

pump_allowed : (m : Machine) (conn : ConnId) (w : PlainWatching) (output : Output) → m.rechecks ≡ true → watch_on conn.0 m ≡ Some w
    → (pump_step conn.0 (link_at conn.0 m) m).0 ≡ told.Sent output → (may_go_on (policy_of m) w ≡ true) ⊎ (output ≡ refusal_of w)
pump_allowed m conn w output on is sent = by_right (may_go_on (policy_of m) w) refl
  where
    by_right : (b : Bool) → may_go_on (policy_of m) w ≡ b → (b ≡ true) ⊎ (output ≡ refusal_of w)
    by_right true may = inl refl
    by_right false denied =
        let p = pump_is conn.0 m w (link_at conn.0 m) refl is in
        let now : (pump_shown conn.0 p.0 w (option_map (event_reply_of m.store w) (Some Refused)) m).0 ≡ told.Sent output =
        ap (λ q. (pump_shown conn.0 p.0 w (option_map (event_reply_of m.store w) q) m).0) (sym (on_shows m w on denied))
        ∙ ap (λ (x : Answer × Machine). x.0) (sym p.2) ∙ sent in
        inr (refused_sends conn.0 m p.0 w output now)

event_allowed : (m : Machine) (e : Event) → m.rechecks ≡ true → IsAllowedNow m e
unfolding step
event_allowed m e on conn w output pump is sent =
    pump_allowed m conn w output on is (ap (λ x. (step m x).0) (sym pump) ∙ sent)

pub rechecks_watches : (m : Machine) (events : List Event) → RechecksWatches m events
unfolding SendsWhileAllowed
rechecks_watches m [] on = tt
rechecks_watches m (e ∷ es) on = (event_allowed m e on, rechecks_watches (step m e).1 es ((effect m e).rechecks ∙ on))
