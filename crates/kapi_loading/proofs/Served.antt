-- The machine of a file has begun, loaded the file's objects, and made turns, and no connection was opened on it.
use Rattle.std.proofs.Common.{◌≡◌, ℕ, zero, suc, Bool, false, List, [], ◌∷◌, map, Option, None, Some, Result, Ok, Err, IfOk, sym, ap, ◌∙◌, refl, subst}
use Rattle.std.specs.Prelude.{replicate}
use Rattle.kapi_text.specs.ResultIs.{◌>>=◌}
use Rattle.kapi_aggregation.specs.Rewriting.{rewriting}
use Rattle.kapi_aggregation.specs.Roles.{roles_in}
use Rattle.kapi_aggregation.specs.Turns.{next}
use Rattle.kapi_aggregation.specs.declared.turn.Turn.{Turn}
use Rattle.kapi_answer.specs.Load.{LoadFault, loads}
use Rattle.kapi_store.specs.Faults.{StoreFault}
use Rattle.kapi_store.specs.Plain.{PlainChange}
use Rattle.kapi_core.specs.Histories.{loaded as has_loaded, loaded_if}
use Rattle.kapi_core.specs.Machine.{Machine, after, after_turn, changed, step, turn_step, turned_by, with_rechecks}
use Rattle.kapi_core.specs.Opening.{empty, opening, opening_objects}
use Rattle.kapi_core.proofs.Openings.{openings_same}
use Rattle.kapi_core.specs.declared.event.Event.TheVariants as event
use Rattle.kapi_loading.specs.Faults.{FileFault}
use Rattle.kapi_core.specs.Running.{Running}
use Rattle.kapi_loading.specs.Starting.{Holds, Starts}
use Rattle.kapi_loading.specs.declared.fault.StartError.{StartError}
use Rattle.kapi_loading.specs.declared.starting.Started.{Started}
use Rattle.kapi_loading.specs.Laws.{FileIsServed, FileIsUnopened}
use Rattle.kapi_lines.specs.Lines.{NumberedLine, lines_of}
use Rattle.kapi_loading.specs.Loading.{loaded, machine_alone, machine_from, made_by, made_of, turned}
use Rattle.kapi_model.specs.declared.row.ResourceRow.{ResourceRow}

-- the texts of lines
abbrev texts : List NumberedLine → List (List ℕ)
texts lines = map (λ (l : NumberedLine). l.text) lines

same : (m n : Machine) → (◌≡◌ {A = Result Machine FileFault} (Ok m) (Ok n)) → n ≡ m
same m n is = sym cc

-- lines that are all loaded make what their objects make
loaded_is : (lines : List NumberedLine) (m n : Machine) → loaded m lines ≡ Ok n → n ≡ has_loaded m (texts lines)
unfolding loaded has_loaded
loaded_is [] m n is = same m n is
loaded_is (l ∷ ls) m n is = by_load (λ k more. loaded_is ls k n more) (loads m.store l.text) refl is
  where
    by_load : ((k : Machine) → loaded k ls ≡ Ok n → n ≡ has_loaded k (texts ls)) → (r : Result (List PlainChange) LoadFault) → loads m.store l.text ≡ r
        → (made_by l.number m r >>= λ next. loaded next ls) ≡ Ok n → n ≡ has_loaded (loaded_if m (loads m.store l.text)) (texts ls)
    by_load later (Ok changes) at made = later (changed changes m) made ∙ ap (λ r. has_loaded (loaded_if m r) (texts ls)) (sym at)
    by_load later (Err fault) at made = absurd (cc made)

-- so many turns are so many events
turned_is : (k : ℕ) (m : Machine) → turned k m ≡ after m (replicate k event.Turn)
unfolding turned after
turned_is zero m = refl
turned_is (suc k) m = turned_is k (step m event.Turn).1

-- a turn leaves the switch, and does not read it
turn_switched : (on : Bool) (m : Machine) → (step (with_rechecks on m) event.Turn).1 ≡ with_rechecks on (step m event.Turn).1
unfolding step turn_step
turn_switched on m = by_due (next (roles_in m.store.objects))
  where
    by_write : (name : List ℕ) (r : Result (List PlainChange) StoreFault) → (after_turn name r (with_rechecks on m)).1 ≡ with_rechecks on (after_turn name r m).1
    by_write name (Ok changes) = refl
    by_write name (Err fault) = refl

    by_due : (due : Option Turn) → (turned_by due (with_rechecks on m)).1 ≡ with_rechecks on (turned_by due m).1
    by_due None = refl
    by_due (Some turn) = by_write turn.name (rewriting turn m.store)

turns_switched : (on : Bool) (k : ℕ) (m : Machine) → with_rechecks on (after m (replicate k event.Turn)) ≡ after (with_rechecks on m) (replicate k event.Turn)
unfolding after
turns_switched on zero m = refl
turns_switched on (suc k) m =
    turns_switched on k (step m event.Turn).1 ∙ ap (λ n. after n (replicate k event.Turn)) (sym (turn_switched on m))

-- no connection was opened, and the switch is off
abbrev IsNew : Machine → Type 0
IsNew m = (m.next_id ≡ 0) × (m.rechecks ≡ false)

turn_new : (m : Machine) → IsNew m → IsNew (step m event.Turn).1
unfolding step turn_step
turn_new m new = by_due (next (roles_in m.store.objects))
  where
    by_write : (name : List ℕ) (r : Result (List PlainChange) StoreFault) → IsNew (after_turn name r m).1
    by_write name (Ok changes) = new
    by_write name (Err fault) = new

    by_due : (due : Option Turn) → IsNew (turned_by due m).1
    by_due None = new
    by_due (Some turn) = by_write turn.name (rewriting turn m.store)

turns_new : (k : ℕ) (m : Machine) → IsNew m → IsNew (after m (replicate k event.Turn))
unfolding after
turns_new zero m new = new
turns_new (suc k) m new = turns_new k (step m event.Turn).1 (turn_new m new)

load_new : (m : Machine) (r : Result (List PlainChange) LoadFault) → IsNew m → IsNew (loaded_if m r)
load_new m (Ok changes) new = new
load_new m (Err fault) new = new

loads_new : (given : List (List ℕ)) (m : Machine) → IsNew m → IsNew (has_loaded m given)
unfolding has_loaded
loads_new [] m new = new
loads_new (t ∷ ts) m new = loads_new ts (loaded_if m (loads m.store t)) (load_new m (loads m.store t) new)

opening_new : (table : List ResourceRow) (first : ℕ) → IsNew (opening table first)
unfolding opening
opening_new table first =
    let same = openings_same opening_objects (empty table first) in
    (same.next_id, same.rechecks)

-- what lines make of a machine is what their objects and the turns make of it
made_is : (from : Machine) (lines : List NumberedLine) (m : Machine) → made_of from lines ≡ Ok m → m ≡ after (has_loaded from (texts lines)) (replicate 64 event.Turn)
made_is from lines m is = by_load (loaded from lines) refl is
  where
    by_load : (r : Result Machine FileFault) → loaded from lines ≡ r → (r >>= λ k. Ok (turned 64 k)) ≡ Ok m
        → m ≡ after (has_loaded from (texts lines)) (replicate 64 event.Turn)
    by_load (Ok k) at made =
        same (turned 64 k) m made ∙ turned_is 64 k
        ∙ ap (λ n. after n (replicate 64 event.Turn)) (loaded_is lines from k at)
    by_load (Err fault) at made = absurd (cc made)

-- no connection is opened by lines
made_new : (from : Machine) (lines : List NumberedLine) (m : Machine) → made_of from lines ≡ Ok m → IsNew from → IsNew m
made_new from lines m is new =
    subst IsNew (sym (made_is from lines m is)) (turns_new 64 (has_loaded from (texts lines)) (loads_new (texts lines) from new))

pub file_is_served : FileIsServed
unfolding machine_from
file_is_served on table first file m is =
    let from : Machine = opening table first in
    ap (with_rechecks on) (made_is from (lines_of file) m is) ∙ turns_switched on 64 (has_loaded from (texts (lines_of file)))

pub file_is_unopened : FileIsUnopened
unfolding machine_from
file_is_unopened table first file m is = made_new (opening table first) (lines_of file) m is (opening_new table first)

-- no connection was opened on the machine that objects make alone
pub alone_is_unopened : (table : List ResourceRow) (first : ℕ) (objects : List ℕ) (m : Machine) → machine_alone table first objects ≡ Ok m → (m.next_id ≡ 0) × (m.rechecks ≡ false)
unfolding machine_alone
alone_is_unopened table first objects m is = made_new (empty table first) (lines_of objects) m is (refl, refl)

-- no connection is open on a core if none is on the machine
pub core_unopened : (result : Result Running StartError) (given : Result Machine FileFault) → Holds result given
    → ((m : Machine) → given ≡ Ok m → (m.next_id ≡ 0) × (m.rechecks ≡ false)) → IfOk result (λ core. core.next_id ≡ 0)
core_unopened (Ok core) given h known = h.2.next_id ∙ (known h.0 h.1).0
core_unopened (Err e) given h known = tt

-- no connection is open on what a start returns if none is on the machine
pub unopened : (result : Result Started StartError) (given : Result Machine FileFault) → Starts result given
    → ((m : Machine) → given ≡ Ok m → (m.next_id ≡ 0) × (m.rechecks ≡ false)) → IfOk result (λ s. s.core.next_id ≡ 0)
unopened (Ok s) given h known = h.2.0.next_id ∙ (known h.0 h.1).0
unopened (Err e) given h known = tt
