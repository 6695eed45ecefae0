-- A line that is an event.
use Rattle.std.proofs.Common.{◌≡◌, ◌==◌, ℕ, true, false, List, length, slice_index, Option, Some, None, refl}
use Rattle.std.specs.Option.{is_some}
use Rattle.std.proofs.lemmas.Bool.{ne_eqb}
use Rattle.kapi_core.specs.declared.event.Event.{Event}
use Rattle.kapi_script.specs.Events.{line_event}
use Rattle.kapi_script.specs.Scripts.{told, told_if, line_of}

some_told : (o : Option Event) → is_some o ≡ true → (event : Event) × (told_if o ≡ told event)
some_told None h = absurd (cc h)
some_told (Some e) h = (e, refl)

pub line_told : (line : List ℕ) → (length line == 0) ≡ false → (slice_index line 0 ≡ 35 → ⊥) → is_some (line_event line) ≡ true
    → (event : Event) × (line_of line ≡ told event)
unfolding line_of
line_told line e n h = let k = some_told (line_event line) h in (k.0, rw (e, ne_eqb (slice_index line 0) 35 n) k.1)
