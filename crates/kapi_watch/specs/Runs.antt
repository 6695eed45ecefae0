-- What a watch shows over a whole run: changes are made, and in between it is pumped.
use Rattle.std.specs.Prelude.{◌≡◌, false, List, [], ◌∷◌, ◌++◌, None, map, drop}
use Rattle.std.specs.List.{cons_option}
use Rattle.kapi_store.specs.Changes.{Follow}
use Rattle.kapi_store.specs.Plain.{Plain, PlainChange, written}
use Rattle.kapi_watch.specs.declared.watch.Watch.{Watch}
use Rattle.kapi_watch.specs.Running.{RefinesWatch}
use Rattle.kapi_watch.specs.Shown.{Shown}
use Rattle.kapi_watch.specs.Watches.{PlainWatch, due, is_expired, pumped, after_pump}

-- a step of a run: a write makes some changes, or the watch is pumped
pub data Step : Type 0 where
  Made : List PlainChange → Step
  Pump : Step

-- all the changes ever, after some steps
unfoldable pub history_after : List Step → List PlainChange → List PlainChange
history_after [] h = h
history_after (Made cs ∷ ts) h = history_after ts (h ++ cs)
history_after (Pump ∷ ts) h = history_after ts h

-- the watch after some steps
unfoldable pub watch_after : List Step → List PlainChange → Plain → PlainWatch → PlainWatch
watch_after [] h s w = w
watch_after (Made cs ∷ ts) h s w = watch_after ts (h ++ cs) (written cs s) w
watch_after (Pump ∷ ts) h s w = watch_after ts h s (after_pump h s w)

-- what a watch shows over some steps, one event after the other
unfoldable pub shown_over : List Step → List PlainChange → Plain → PlainWatch → List Shown
shown_over [] h s w = []
shown_over (Made cs ∷ ts) h s w = shown_over ts (h ++ cs) (written cs s) w
shown_over (Pump ∷ ts) h s w = cons_option (pumped h s w) (shown_over ts h s (after_pump h s w))

-- the window holds: at no pump changes are gone
unfoldable pub HoldsOn : List Step → List PlainChange → Plain → PlainWatch → Type 0
HoldsOn [] h s w = Unit {0}
HoldsOn (Made cs ∷ ts) h s w = HoldsOn ts (h ++ cs) (written cs s) w
HoldsOn (Pump ∷ ts) h s w = (is_expired s w ≡ false) × HoldsOn ts h s (after_pump h s w)

-- the events that are due to a watch and were not shown yet
abbrev pub still_due : List PlainChange → PlainWatch → List Shown
still_due h w = map (λ e. e.1) (drop w.shown (due h w))

-- while the window holds, what was due to a watch is what it has shown and then what is still due
abbrev pub ShowsWhatIsDue : Type 0
ShowsWhatIsDue = (ts : List Step) (h : List PlainChange) (s : Plain) (w : PlainWatch) → HoldsOn ts h s w
    → still_due (history_after ts h) w ≡ shown_over ts h s w ++ still_due (history_after ts h) (watch_after ts h s w)

-- after a write a running watch still refines the model's
abbrev pub StaysOverWrites : Type 0
StaysOverWrites = (r : Watch) (h : List PlainChange) (s : Plain) (w : PlainWatch) (cs : List PlainChange) → Follow (λ c. c.revision) s.revision cs
    → RefinesWatch r h s w → RefinesWatch r (h ++ cs) (written cs s) w

-- a watch with nothing to show has shown all that is due, and is at the current revision
abbrev pub EndsAtTheCurrent : Type 0
EndsAtTheCurrent = (h : List PlainChange) (s : Plain) (w : PlainWatch) → pumped h s w ≡ None → (still_due h w ≡ []) × ((after_pump h s w).position ≡ s.revision)
