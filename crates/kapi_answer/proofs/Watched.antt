-- The bytes that an event of a watch sends.
use Rattle.std.proofs.Common.{◌≡◌, ℕ, List, Some, None, Result, Ok, Err, refl, ap, sym}
use Rattle.serde_json.specs.Data.{Data}
use Rattle.serde_json.specs.Written.{compact_text}
use Rattle.kapi_store.specs.Plain.{Plain}
use Rattle.kapi_watch.specs.Shown.{Shown, Added, Deleted, Expired, Modified, Refused, event_of}
use Rattle.kapi_watch.specs.Text.{object_text_of, type_of}
use Rattle.kapi_watch.specs.Watches.{WatchFault, startable}
use Rattle.kapi_watch.specs.declared.event.Event.{Event}
use Rattle.kapi_watch.specs.declared.event.Event.TheVariants as event
use Rattle.kapi_answer.specs.Watch.{PlainWatching, ending_of, event_chunk, event_reply_of, expired_status, refused_status, since_served, started_or_refused}
use Rattle.kapi_answer.specs.declared.watch.After.TheVariants as after
use Rattle.kapi_answer.specs.declared.watch.EventReply.{EventReply}

-- a watch that goes on
abbrev pub told_of : List ℕ → EventReply
told_of bytes = record { bytes = bytes; after = after.Watches }

-- the bytes of an event with a text of an object
abbrev pub IsEventChunk : List ℕ → Shown → List ℕ → Type 0
IsEventChunk bytes e object = (d : Data) → object ≡ compact_text d → bytes ≡ event_chunk (type_of e) d

same_text : (x y : List ℕ) → Some x ≡ Some y → x ≡ y
same_text x y is = cc

-- an event that shows an object
pub model_of_object : (s : Plain) (w : PlainWatching) (e : Shown) (object bytes : List ℕ) → Some object ≡ object_text_of e → IsEventChunk bytes e object → told_of bytes ≡ event_reply_of s w e
unfolding event_reply_of
model_of_object s w (Added d) object bytes is tells = ap told_of (tells d (same_text object (compact_text d) is))
model_of_object s w (Modified d) object bytes is tells = ap told_of (tells d (same_text object (compact_text d) is))
model_of_object s w (Deleted d) object bytes is tells = ap told_of (tells d (same_text object (compact_text d) is))
model_of_object s w Expired object bytes is tells = absurd (cc is)
model_of_object s w Refused object bytes is tells = absurd (cc is)

-- the end of a watch that cannot go on
pub end_expired : (s : Plain) (w : PlainWatching) (e : Event) → (e ≡ event.Refused → ⊥) → None ≡ object_text_of (event_of e)
    → ending_of w.close (expired_status s w.watch) ≡ event_reply_of s w (event_of e)
unfolding event_reply_of
end_expired s w (event.Added o) never is = absurd (cc is)
end_expired s w (event.Modified o) never is = absurd (cc is)
end_expired s w (event.Deleted r) never is = absurd (cc is)
end_expired s w event.Expired never is = refl
end_expired s w event.Refused never is = absurd (never refl)

-- the end of a watch whose rights were taken away
pub end_refused : (s : Plain) (w : PlainWatching) (e : Event) → e ≡ event.Refused → ending_of w.close (refused_status w) ≡ event_reply_of s w (event_of e)
unfolding event_reply_of
end_refused s w e is = ap (λ x. event_reply_of s w (event_of x)) (sym is)

-- if a start is not refused, a watch can start
not_refused : (s : Plain) (since : ℕ) (r : Result (Unit {0}) WatchFault) → started_or_refused s since r ≡ Ok tt → r ≡ Ok tt
not_refused s since (Ok u) is = refl
not_refused s since (Err fault) is = absurd (cc is)

pub startable_served : (s : Plain) (since : ℕ) → since_served s since ≡ Ok tt → startable s since ≡ Ok tt
unfolding since_served
startable_served s since is = not_refused s since (startable s since) is
