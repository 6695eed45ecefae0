-- What is due while changes are made, and what a watch shows of it over a run.
use Rattle.std.proofs.Common.{◌≡◌, ℕ, zero, suc, ◌+◌, ◌≤◌, Bool, true, false, List, [], ◌∷◌, ◌++◌, Option, None, Some, option_map, map, length, drop, slice_get, refl, sym, ap, ◌∙◌, arith, append_assoc}
use Rattle.std.proofs.lemmas.List.{length-append, drop-append-le}
use Rattle.std.specs.Prelude.{nat_lt}
use Rattle.std.specs.List.{cons_option}
use Rattle.std.proofs.lemmas.List.Elements.{filter-append, filter_map-append}
use Rattle.kapi_store.specs.Plain.{Plain, PlainChange, written}
use Rattle.kapi_watch.specs.Shown.{Shown, Expired, Added, shown_of}
use Rattle.kapi_watch.specs.Watches.{PlainWatch, shown_all, later, due, is_expired, pumped, moved, after_pump}
use Rattle.kapi_watch.specs.Runs.{Step, Made, Pump, history_after, watch_after, shown_over, HoldsOn, still_due, ShowsWhatIsDue, StaysOverWrites, EndsAtTheCurrent}
use Rattle.kapi_watch.proofs.Due.{drop_front, past_all}
use Rattle.kapi_watch.proofs.Standing.{shown_own, slice_zero, slice_none}

-- what some changes more show
shown_more : (w : PlainWatch) (limit : ℕ) (h cs : List PlainChange) → shown_all w.scope (later limit (h ++ cs)) ≡ shown_all w.scope (later limit h) ++ shown_all w.scope (later limit cs)
shown_more w limit h cs =
    ap (shown_all w.scope) (filter-append (λ c. nat_lt limit c.revision) h cs) ∙ filter_map-append (shown_of w.scope) (later limit h) (later limit cs)

-- changes more make more due, at the end
due_more : (h cs : List PlainChange) (w : PlainWatch) → due (h ++ cs) w ≡ due h w ++ shown_all w.scope (later w.start cs)
unfolding due
due_more h cs w =
    ap (λ l. map (λ tree. (w.start, Added tree)) w.first ++ l) (shown_more w w.start h cs)
    ∙ sym (append_assoc (map (λ tree. (w.start, Added tree)) w.first) (shown_all w.scope (later w.start h)) (shown_all w.scope (later w.start cs)))

-- after a write a running watch still refines the model's
pub stays : StaysOverWrites
stays r h s w cs next k =
    let known : w.start ≤ s.revision = k.known in
    let stood : w.position ≤ s.revision = k.stood in
    let within : w.shown ≤ length (due h w) = k.within in
    let all : later w.start cs ≡ cs = past_all (λ c. c.revision) (shown_of w.scope) (shown_own w.scope) w.start s.revision cs known next in
    let new : later w.position cs ≡ cs = past_all (λ c. c.revision) (shown_of w.scope) (shown_own w.scope) w.position s.revision cs stood next in
    let more = due_more h cs w in
    let front : List (ℕ × Shown) = map (λ tree. (w.start, Added tree)) (drop r.told w.first) in
    let len : length (due h w ++ shown_all w.scope (later w.start cs)) ≡ length (due h w) + length (shown_all w.scope (later w.start cs)) = length-append (due h w) (shown_all w.scope (later w.start cs)) in
    let now : length (due (h ++ cs) w) ≡ length (due h w ++ shown_all w.scope (later w.start cs)) = ap length more in
    record {
      scope = k.scope;
      position = k.position;
      first = k.first;
      begun = k.begun;
      ended = k.ended;
      rest =
          ap (drop w.shown) more
          ∙ drop-append-le w.shown (due h w) (shown_all w.scope (later w.start cs)) within
          ∙ ap (λ l. l ++ shown_all w.scope (later w.start cs)) k.rest
          ∙ append_assoc front (shown_all w.scope (later w.position h)) (shown_all w.scope (later w.start cs))
          ∙ ap (λ l. front ++ (shown_all w.scope (later w.position h) ++ shown_all w.scope l)) (all ∙ sym new)
          ∙ ap (λ l. front ++ l) (sym (shown_more w w.position h cs));
      within = omega arith;
      known = omega arith;
      stood = omega arith;
      runs = k.runs;
    }

slice_more : {X : Type 0} (xs ys : List X) (n : ℕ) (x : X) → slice_get xs n ≡ Some x → slice_get (xs ++ ys) n ≡ Some x
slice_more [] ys n x is = cc
slice_more (z ∷ xs) ys zero x is = is
slice_more (z ∷ xs) ys (suc n) x is = slice_more xs ys n x is

-- what is due stays due
due_stays : (ts : List Step) (h : List PlainChange) (w : PlainWatch) (n : ℕ) (e : ℕ × Shown) → slice_get (due h w) n ≡ Some e → slice_get (due (history_after ts h) w) n ≡ Some e
unfolding history_after
due_stays [] h w n e is = is
due_stays (Made cs ∷ ts) h w n e is =
    due_stays ts (h ++ cs) w n e (ap (λ l. slice_get l n) (due_more h cs w) ∙ slice_more (due h w) (shown_all w.scope (later w.start cs)) n e is)
due_stays (Pump ∷ ts) h w n e is = due_stays ts h w n e is

-- a pump that shows the next event, and what is shown after it
pump_then : (h g : List PlainChange) (s : Plain) (w : PlainWatch) (rest : List Shown) (o : Option (ℕ × Shown)) (left : List Shown)
    → ((e : ℕ × Shown) → o ≡ Some e → slice_get (due g w) w.shown ≡ Some e)
    → still_due g (moved s w o) ≡ rest ++ left → still_due g w ≡ cons_option (option_map (λ e. e.1) o) rest ++ left
unfolding due
pump_then h g s w rest None left there next = next
pump_then h g s w rest (Some e) left there next =
    ap (map (λ e. e.1)) (drop_front (due g w) w.shown e (there e refl)) ∙ ap (λ l. e.1 ∷ l) next

pub shows : ShowsWhatIsDue
unfolding history_after watch_after shown_over HoldsOn
shows [] h s w holds = refl
shows (Made cs ∷ ts) h s w holds = shows ts (h ++ cs) (written cs s) w holds
shows (Pump ∷ ts) h s w holds =
    let next : Option (ℕ × Shown) = slice_get (due h w) w.shown in
    let after : moved s w next ≡ after_pump h s w = rw holds.0 refl in
    let what : option_map (λ e. e.1) next ≡ pumped h s w = rw holds.0 refl in
    let g : List PlainChange = history_after ts h in
    let rest : List Shown = shown_over ts h s (after_pump h s w) in
    let left : List Shown = still_due g (watch_after ts h s (after_pump h s w)) in
    pump_then h g s w rest next left (due_stays ts h w w.shown) (ap (still_due g) after ∙ shows ts h s (after_pump h s w) holds.1)
    ∙ ap (λ o. cons_option o rest ++ left) what

module _ (h : List PlainChange) (s : Plain) (w : PlainWatch) where
  end_found : (o : Option (ℕ × Shown)) → slice_get (due h w) w.shown ≡ o → is_expired s w ≡ false → option_map (λ e. e.1) o ≡ None
      → (still_due h w ≡ []) × ((after_pump h s w).position ≡ s.revision)
  end_found None is holds none =
      let left : drop w.shown (due h w) ≡ [] = slice_none (drop w.shown (due h w)) (sym (slice_zero (due h w) w.shown) ∙ is) in
      (ap (map (λ e. e.1)) left, rw (holds, is) refl)
  end_found (Some e) is holds none = cc

  end_by : (b : Bool) → is_expired s w ≡ b → pumped h s w ≡ None → (still_due h w ≡ []) × ((after_pump h s w).position ≡ s.revision)
  end_by true is none = let gone : pumped h s w ≡ Some Expired = rw is refl in let both : Some Expired ≡ None = sym gone ∙ none in cc
  end_by false is none =
      let what : option_map (λ e. e.1) (slice_get (due h w) w.shown) ≡ pumped h s w = rw is refl in
      end_found (slice_get (due h w) w.shown) refl is (what ∙ none)

pub ends : EndsAtTheCurrent
ends h s w none = end_by h s w (is_expired s w) refl none
