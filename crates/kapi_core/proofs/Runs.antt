-- One event more at the end of a run.
use Rattle.std.proofs.Common.{◌≡◌, ℕ, take, ◌+◌, List, [], ◌∷◌, ◌++◌, length, refl, sym, ap, ◌∙◌, subst, length-append}
use Rattle.std.proofs.lemmas.List.{length-take, take_min}
use Rattle.kapi_core.specs.declared.event.Event.{Event}
use Rattle.kapi_core.specs.declared.event.Answer.{Answer}
use Rattle.kapi_core.specs.Running.{Running}
use Rattle.kapi_core.specs.Machine.{Machine, step, answers, after}
use Rattle.kapi_core.specs.Refines.{Keeps, Refines, Pushes}

pub answers_push : (m : Machine) (es : List Event) (e : Event) → answers m (es ++ e ∷ []) ≡ answers m es ++ (step (after m es) e).0 ∷ []
unfolding answers after
answers_push m [] e = refl
answers_push m (x ∷ es) e = ap (λ r. (step m x).0 ∷ r) (answers_push (step m x).1 es e)

pub after_push : (m : Machine) (es : List Event) (e : Event) → after m (es ++ e ∷ []) ≡ (step (after m es) e).1
unfolding after
after_push m [] e = refl
after_push m (x ∷ es) e = after_push (step m x).1 es e

-- the answers so far, and the model that is refined
pub record Ran (initial now : Running) (told : List Answer) (events : List Event) : Type 0 where
  pub count : length told ≡ length events
  pub answered : (m : Machine) → Refines initial m → told ≡ answers m events
  pub stands : (m : Machine) → Refines initial m → Refines now (after m events)

-- nothing was run
pub ran_nothing : (core : Running) → Ran core core [] []
unfolding answers after
ran_nothing core = record { count = refl; answered = λ m h. refl; stands = λ m h. h }

-- one step more
pub ran_push : (initial now next : Running) (told more : List Answer) (events : List Event) (e : Event) → Ran initial now told events → Pushes now next e told more
    → Ran initial next more (events ++ e ∷ [])
ran_push initial now next told more events e ran push = record {
  count = ap length push.1 ∙ length-append told (push.0 ∷ []) ∙ ap (λ n. n + 1) ran.count ∙ sym (length-append events (e ∷ []));
  answered = λ m h.
      let made = push.2 (after m events) (ran.stands m h) in
      push.1 ∙ ap (λ a. told ++ a ∷ []) made.0 ∙ ap (λ r. r ++ (step (after m events) e).0 ∷ []) (ran.answered m h) ∙ sym (answers_push m events e);
  stands = λ m h.
      let made = push.2 (after m events) (ran.stands m h) in
      let P : Machine → Type 0 = λ n. Refines next n in subst P (sym (after_push m events e)) made.1;
}

-- a call that kept the machine goes on from it
pub ran_kept : (initial now next : Running) (told : List Answer) (events : List Event) → Ran initial now told events → Keeps now next → Ran initial next told events
ran_kept initial now next told events ran keeps = record { count = ran.count; answered = ran.answered; stands = λ m h. keeps (after m events) (ran.stands m h) }

-- so many events were made as were answered
pub events_made : (told : List Answer) (i : ℕ) (events : List Event) → length told ≡ length (take i events) → take (length told) events ≡ take i events
events_made told i events count = ap (λ n. take n events) (count ∙ length-take i events) ∙ take_min i events
