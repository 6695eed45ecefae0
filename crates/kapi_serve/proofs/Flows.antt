-- What was read, accepted, fed and answered, if lists are joined.
use Rattle.std.proofs.Common.{◌≡◌, ℕ, ◌==◌, Bool, true, false, ◌||◌, if◌then◌else◌, List, [], ◌∷◌, ◌++◌, refl, sym, ap, ◌∙◌, append_assoc}
use Rattle.std.proofs.lemmas.Bool.{eq-eqb, eqb-false, ne_eqb, or_parts}
use Rattle.kapi_core.specs.declared.event.Answer.{Answer}
use Rattle.kapi_core.specs.declared.event.Answer.TheVariants as answer
use Rattle.kapi_core.specs.declared.event.ConnId.{ConnId}
use Rattle.kapi_core.specs.declared.event.Event.{Event}
use Rattle.kapi_core.specs.declared.event.Event.TheVariants as event
use Rattle.kapi_serve.specs.declared.port.Entry.{Entry}
use Rattle.kapi_serve.specs.declared.port.Entry.TheVariants as entry
use Rattle.kapi_serve.specs.Account.{Made, accepted_by, answered_by, answered_to, closes, fed_by, fed_to, is_close_of, last_read, read_from, talk_if, talks, visits}
use Rattle.kapi_serve.specs.Acts.{AreTo, IsTo, StayOn, end_of}

-- numbers that differ do so the other way round
pub differs_back : (a b : ℕ) → (a == b) ≡ false → (b == a) ≡ false
differs_back a b h = ne_eqb b a (λ e. eqb-false a b h (sym e))

-- ---- entries of one slot

-- what is read on a slot is joined
pub read_on : (slot : ℕ) (es fs : List Entry) → StayOn slot es → read_from slot (es ++ fs) ≡ read_from slot es ++ read_from slot fs
unfolding read_from StayOn
read_on slot [] fs on = refl
read_on slot (entry.Opened s who ∷ es) fs on = elim on [ ]
read_on slot (entry.Gave s bytes ∷ es) fs on =
    rw (eq-eqb s slot on.0) (ap (λ r. bytes ++ r) (read_on slot es fs on.1) ∙ sym (append_assoc bytes (read_from slot es) (read_from slot fs)))
read_on slot (entry.Took s bytes ∷ es) fs on = read_on slot es fs on.1
read_on slot (entry.Ended s ∷ es) fs on = elim on [ ]

-- what is accepted on a slot is joined
pub accepted_on : (slot : ℕ) (es fs : List Entry) → StayOn slot es → accepted_by slot (es ++ fs) ≡ accepted_by slot es ++ accepted_by slot fs
unfolding accepted_by StayOn
accepted_on slot [] fs on = refl
accepted_on slot (entry.Opened s who ∷ es) fs on = elim on [ ]
accepted_on slot (entry.Gave s bytes ∷ es) fs on = accepted_on slot es fs on.1
accepted_on slot (entry.Took s bytes ∷ es) fs on =
    rw (eq-eqb s slot on.0) (ap (λ r. bytes ++ r) (accepted_on slot es fs on.1) ∙ sym (append_assoc bytes (accepted_by slot es) (accepted_by slot fs)))
accepted_on slot (entry.Ended s ∷ es) fs on = elim on [ ]

-- entries of a slot read nothing on another
pub read_off : (slot k : ℕ) (es fs : List Entry) → (slot == k) ≡ false → StayOn slot es → read_from k (es ++ fs) ≡ read_from k fs
unfolding read_from StayOn
read_off slot k [] fs off on = refl
read_off slot k (entry.Opened s who ∷ es) fs off on = elim on [ ]
read_off slot k (entry.Gave s bytes ∷ es) fs off on = rw (ap (λ n. n == k) on.0 ∙ off) (read_off slot k es fs off on.1)
read_off slot k (entry.Took s bytes ∷ es) fs off on = read_off slot k es fs off on.1
read_off slot k (entry.Ended s ∷ es) fs off on = elim on [ ]

-- entries of a slot accept nothing on another
pub accepted_off : (slot k : ℕ) (es fs : List Entry) → (slot == k) ≡ false → StayOn slot es → accepted_by k (es ++ fs) ≡ accepted_by k fs
unfolding accepted_by StayOn
accepted_off slot k [] fs off on = refl
accepted_off slot k (entry.Opened s who ∷ es) fs off on = elim on [ ]
accepted_off slot k (entry.Gave s bytes ∷ es) fs off on = accepted_off slot k es fs off on.1
accepted_off slot k (entry.Took s bytes ∷ es) fs off on = rw (ap (λ n. n == k) on.0 ∙ off) (accepted_off slot k es fs off on.1)
accepted_off slot k (entry.Ended s ∷ es) fs off on = elim on [ ]

-- the last piece that is read on a slot
pub last_on : (slot : ℕ) (last : List ℕ) (es fs : List Entry) → StayOn slot es → last_read slot last (es ++ fs) ≡ last_read slot (last_read slot last es) fs
unfolding last_read StayOn
last_on slot last [] fs on = refl
last_on slot last (entry.Opened s who ∷ es) fs on = elim on [ ]
last_on slot last (entry.Gave s bytes ∷ es) fs on = last_on slot (if s == slot then bytes else last) es fs on.1
last_on slot last (entry.Took s bytes ∷ es) fs on = last_on slot last es fs on.1
last_on slot last (entry.Ended s ∷ es) fs on = elim on [ ]

pub last_off : (slot k : ℕ) (last : List ℕ) (es fs : List Entry) → (slot == k) ≡ false → StayOn slot es → last_read k last (es ++ fs) ≡ last_read k last fs
unfolding last_read StayOn
last_off slot k last [] fs off on = refl
last_off slot k last (entry.Opened s who ∷ es) fs off on = elim on [ ]
last_off slot k last (entry.Gave s bytes ∷ es) fs off on = ap (λ b. last_read k (if b then bytes else last) (es ++ fs)) (ap (λ n. n == k) on.0 ∙ off) ∙ last_off slot k last es fs off on.1
last_off slot k last (entry.Took s bytes ∷ es) fs off on = last_off slot k last es fs off on.1
last_off slot k last (entry.Ended s ∷ es) fs off on = elim on [ ]

stay_front : (slot : ℕ) (es fs : List Entry) → StayOn slot (es ++ fs) → StayOn slot es
unfolding StayOn
stay_front slot [] fs on = tt
stay_front slot (entry.Opened s who ∷ es) fs on = elim on [ ]
stay_front slot (entry.Gave s bytes ∷ es) fs on = (on.0, stay_front slot es fs on.1)
stay_front slot (entry.Took s bytes ∷ es) fs on = (on.0, stay_front slot es fs on.1)
stay_front slot (entry.Ended s ∷ es) fs on = elim on [ ]

-- a piece behind which nothing is read is the last one
last_own : (slot : ℕ) (last piece : List ℕ) → last_read slot last (entry.Gave slot piece ∷ []) ≡ piece
unfolding last_read
last_own slot last piece = ap (λ b. if b then piece else last) (eq-eqb slot slot refl)

pub last_piece : (slot : ℕ) (last : List ℕ) (front : List Entry) (piece : List ℕ) → StayOn slot (front ++ entry.Gave slot piece ∷ []) → last_read slot last (front ++ entry.Gave slot piece ∷ []) ≡ piece
last_piece slot last front piece on =
    last_on slot last front (entry.Gave slot piece ∷ []) (stay_front slot front (entry.Gave slot piece ∷ []) on) ∙ last_own slot (last_read slot last front) piece

-- no client connects with the entries of a slot
pub visits_on : (slot : ℕ) (es fs : List Entry) → StayOn slot es → visits (es ++ fs) ≡ visits fs
unfolding visits StayOn
visits_on slot [] fs on = refl
visits_on slot (entry.Opened s who ∷ es) fs on = elim on [ ]
visits_on slot (entry.Gave s bytes ∷ es) fs on = visits_on slot es fs on.1
visits_on slot (entry.Took s bytes ∷ es) fs on = visits_on slot es fs on.1
visits_on slot (entry.Ended s ∷ es) fs on = elim on [ ]

-- ---- the end of a slot

-- after the end of a slot nothing comes of it, if nothing did before, and the other slots go on as before
pub read_end : (slot : ℕ) (b : Bool) (fs : List Entry) → read_from slot fs ≡ [] → read_from slot (end_of slot b ++ fs) ≡ []
unfolding read_from
read_end slot true fs none = rw (eq-eqb slot slot refl)
read_end slot false fs none = none

pub accepted_end : (slot : ℕ) (b : Bool) (fs : List Entry) → accepted_by slot fs ≡ [] → accepted_by slot (end_of slot b ++ fs) ≡ []
unfolding accepted_by
accepted_end slot true fs none = rw (eq-eqb slot slot refl)
accepted_end slot false fs none = none

pub read_end_off : (slot k : ℕ) (b : Bool) (fs : List Entry) → (slot == k) ≡ false → read_from k (end_of slot b ++ fs) ≡ read_from k fs
unfolding read_from
read_end_off slot k true fs off = rw off
read_end_off slot k false fs off = refl

pub accepted_end_off : (slot k : ℕ) (b : Bool) (fs : List Entry) → (slot == k) ≡ false → accepted_by k (end_of slot b ++ fs) ≡ accepted_by k fs
unfolding accepted_by
accepted_end_off slot k true fs off = rw off
accepted_end_off slot k false fs off = refl

pub last_end : (slot : ℕ) (b : Bool) (last : List ℕ) (fs : List Entry) → b ≡ true → last_read slot last (end_of slot b ++ fs) ≡ last
unfolding last_read
last_end slot true last fs ends = ap (λ b. if b then last else last_read slot last fs) (eq-eqb slot slot refl)
last_end slot false last fs ends = absurd (cc)

pub last_end_off : (slot k : ℕ) (b : Bool) (last : List ℕ) (fs : List Entry) → (slot == k) ≡ false → last_read k last (end_of slot b ++ fs) ≡ last_read k last fs
unfolding last_read
last_end_off slot k true last fs off = ap (λ b. if b then last else last_read k last fs) off
last_end_off slot k false last fs off = refl

pub visits_end : (slot : ℕ) (b : Bool) (fs : List Entry) → visits (end_of slot b ++ fs) ≡ visits fs
unfolding visits
visits_end slot true fs = refl
visits_end slot false fs = refl

-- ---- events

-- what is fed is joined
pub fed_more : (c : ConnId) (ms ns : List Made) → fed_to c (ms ++ ns) ≡ fed_to c ms ++ fed_to c ns
unfolding fed_to
fed_more c [] ns = refl
fed_more c (m ∷ ms) ns =
    ap (λ r. fed_by c m.event m.answer ++ r) (fed_more c ms ns) ∙ sym (append_assoc (fed_by c m.event m.answer) (fed_to c ms) (fed_to c ns))

-- what is answered is joined
pub answered_more : (c : ConnId) (ms ns : List Made) → answered_to c (ms ++ ns) ≡ answered_to c ms ++ answered_to c ns
unfolding answered_to
answered_more c [] ns = refl
answered_more c (m ∷ ms) ns =
    ap (λ r. answered_by c m.event m.answer ++ r) (answered_more c ms ns) ∙ sym (append_assoc (answered_by c m.event m.answer) (answered_to c ms) (answered_to c ns))

-- what is not closed is not closed later
pub closes_later : (c : ConnId) (ms ns : List Made) → closes c (ms ++ ns) ≡ false → closes c ns ≡ false
unfolding closes
closes_later c [] ns h = h
closes_later c (m ∷ ms) ns h = closes_later c ms ns (or_parts (is_close_of c m.event) (closes c (ms ++ ns)) h).1

-- one of two still holds
either_still : (a b c : Bool) → (a || b) ≡ true → (b ≡ true → c ≡ true) → (a || c) ≡ true
either_still true b c h on = refl
either_still false b c h on = on h

-- a connection that was closed stays closed
pub closes_still : (c : ConnId) (ms ns : List Made) → closes c ms ≡ true → closes c (ms ++ ns) ≡ true
unfolding closes
closes_still c [] ns h = absurd (cc)
closes_still c (m ∷ ms) ns h = either_still (is_close_of c m.event) (closes c ms) (closes c (ms ++ ns)) h (λ k. closes_still c ms ns k)

-- ---- events of one connection

-- an event of a connection feeds no other
fed_by_other : (conn c : ConnId) (e : Event) (x : Answer) → (conn.0 == c.0) ≡ false → IsTo conn e → fed_by c e x ≡ []
fed_by_other conn c (event.Feed d piece) answer.Done off to = rw (ap (λ k. k.0 == c.0) to ∙ off)
fed_by_other conn c (event.Feed d piece) _ off to = refl
fed_by_other conn c _ _ off to = refl

-- an event of a connection answers no other
answered_by_other : (conn c : ConnId) (e : Event) (x : Answer) → (conn.0 == c.0) ≡ false → IsTo conn e → answered_by c e x ≡ []
answered_by_other conn c (event.Serve d) (answer.Sent output) off to = rw (ap (λ k. k.0 == c.0) to ∙ off)
answered_by_other conn c (event.Pump d) (answer.Sent output) off to = rw (ap (λ k. k.0 == c.0) to ∙ off)
answered_by_other conn c _ _ off to = refl

-- an event of a connection asks for none
no_talk : (conn : ConnId) (e : Event) (x : Answer) (rest : List Made) → IsTo conn e → talk_if e x rest ≡ []
no_talk conn (event.Open who) x rest to = elim to [ ]
no_talk conn _ x rest to = refl

-- events of a connection make nothing of another
pub fed_off : (conn c : ConnId) (ms : List Made) → (conn.0 == c.0) ≡ false → AreTo conn ms → fed_to c ms ≡ []
unfolding fed_to AreTo
fed_off conn c [] off to = refl
fed_off conn c (m ∷ ms) off to = λ j. fed_by_other conn c m.event m.answer off to.0 j ++ fed_off conn c ms off to.1 j

pub answered_off : (conn c : ConnId) (ms : List Made) → (conn.0 == c.0) ≡ false → AreTo conn ms → answered_to c ms ≡ []
unfolding answered_to AreTo
answered_off conn c [] off to = refl
answered_off conn c (m ∷ ms) off to = λ j. answered_by_other conn c m.event m.answer off to.0 j ++ answered_off conn c ms off to.1 j

pub talks_on : (conn : ConnId) (ms ns : List Made) → AreTo conn ms → talks (ms ++ ns) ≡ talks ns
unfolding talks AreTo
talks_on conn [] ns to = refl
talks_on conn (m ∷ ms) ns to = λ j. no_talk conn m.event m.answer (ms ++ ns) to.0 j ++ talks_on conn ms ns to.1 j
