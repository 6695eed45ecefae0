-- What a core reaches, and what is said of its policy, line by line and turn by turn.
use Rattle.std.proofs.Common.{◌≡◌, ℕ, zero, suc, ◌+◌, List, ◌∷◌, Option, None, Some, Result, Ok, Err, IsErrAnd, map, refl, sym, ap, ◌∙◌, subst, add-one, drop, drop-cons, get_or, length, ◌<◌, ◌≤◌}
use Rattle.std.proofs.lemmas.List.{drop_all}
use Rattle.kapi_text.specs.ResultIs.{Fails, ◌>>=◌}
use Rattle.kapi_loading.specs.Faults.{FileFault, bad_line, model_of_fault}
use Rattle.kapi_lines.specs.Lines.{NumberedLine, line_of}
use Rattle.kapi_loading.specs.Loading.{Reaches, load_fault, loaded, made_by, made_of, turned}
use Rattle.kapi_aggregation.specs.Rewriting.{rewriting}
use Rattle.kapi_aggregation.specs.Roles.{roles_in}
use Rattle.kapi_aggregation.specs.Turns.{next}
use Rattle.kapi_aggregation.specs.declared.turn.Turn.{Turn}
use Rattle.kapi_answer.specs.Load.{LoadFault, bad_object, loads, not_stored, unknown_kind}
use Rattle.kapi_answer.specs.declared.loading.LoadError.{LoadError}
use Rattle.kapi_answer.specs.declared.loading.LoadError.TheVariants as error
use Rattle.kapi_core.specs.Machine.{Machine, after_turn, changed, policy_of, step, turn_step, turned_by}
use Rattle.kapi_core.specs.Running.{Running}
use Rattle.kapi_core.specs.Refines.{Loads, Refines, Turns}
use Rattle.kapi_core.specs.Telling.{changes_told}
use Rattle.kapi_core.proofs.Telling.{event_tells}
use Rattle.kapi_core.specs.declared.event.Answer.{Answer}
use Rattle.kapi_core.specs.declared.event.Answer.TheVariants as told
use Rattle.kapi_core.specs.declared.event.Event.TheVariants as event
use Rattle.kapi_core.specs.declared.event.Turned.{Turned}
use Rattle.kapi_policy.specs.Objects.{PolicyObjects}
use Rattle.kapi_policy.specs.Steps.{after_changes}
use Rattle.kapi_policy.specs.declared.change.PolicyChange.{PolicyChange}
use Rattle.kapi_store.specs.Faults.{StoreFault}
use Rattle.kapi_store.specs.Plain.{PlainChange}
use Rattle.kapi_escalation.proofs.Writes.{policy_written, stands_in_order}
use Rattle.kapi_escalation.specs.Reading.{policy_changes}
use Rattle.kapi_lines.specs.declared.line.Line.{Line}
use Rattle.kapi_loading.specs.declared.fault.StartError.{StartError}

-- of lines those from a place on are still to be loaded, on a machine whose policy has what is said of it
abbrev pub LoadedUpTo : (PolicyObjects → Type 0) → Machine → List Line → ℕ → Running → Type 0
LoadedUpTo Follows m lines i core =
    (k : Machine) × (loaded m (map line_of lines) ≡ loaded k (map line_of (drop i lines))) × Refines core k × Follows (policy_of k)

-- the policy of a machine with some changes
changed_policy : (core : Running) (m : Machine) (changes : List PlainChange) → Refines core m → policy_of (changed changes m) ≡ after_changes (policy_changes changes) (policy_of m)
changed_policy core m changes stands =
    sym (policy_written core.store m.changes changes m.store (policy_of m) (after_changes (policy_changes changes) (policy_of m)) stands.store refl refl)

-- a line more is loaded
pub line_loaded : (Before After : PolicyObjects → Type 0) (m : Machine) (lines : List Line) (i : ℕ) (d : Line) (core next : Running) (made : List PolicyChange)
    → i < length lines → LoadedUpTo Before m lines i core → Loads core next (get_or lines i d).text.now (Ok made)
    → ((objects : PolicyObjects) → Before objects → After (after_changes made objects)) → LoadedUpTo After m lines (i + 1) next
unfolding loaded
line_loaded Before After m lines i d core next made below (k, said, stands, follows) loads_ok taken =
    let l = get_or lines i d in
    let t = loads_ok k stands in
    let rest = map line_of (drop (suc i) lines) in
    let one : loaded k (line_of l ∷ rest) ≡ loaded (changed t.0 k) rest = ap (λ r. made_by l.number k r >>= λ next. loaded next rest) t.1 in
    let whole = said ∙ ap (λ ls. loaded k (map line_of ls)) (drop-cons lines i d below) ∙ one in
    let policy : after_changes made (policy_of k) ≡ policy_of (changed t.0 k) =
    ap (λ cs. after_changes cs (policy_of k)) t.2 ∙ sym (changed_policy core k t.0 stands) in
    subst (λ n. LoadedUpTo After m lines n next) (sym (add-one i)) (changed t.0 k, whole, t.3, subst After policy (taken (policy_of k) follows))

-- a line is not loaded
refused_with : (Follows : PolicyObjects → Type 0) (m : Machine) (lines : List Line) (i : ℕ) (d : Line) (core next : Running) (fault : LoadFault) → i < length lines
    → LoadedUpTo Follows m lines i core
    → ((k : Machine) → Refines core k → (loads k.store (get_or lines i d).text.now ≡ Err fault) × Refines next k) → loaded m (map line_of lines) ≡ Err (bad_line (get_or lines i d).number)
unfolding loaded
refused_with Follows m lines i d core next fault below (k, said, stands, follows) fails =
    let l = get_or lines i d in
    let rest = map line_of (drop (suc i) lines) in
    said ∙ ap (λ ls. loaded k (map line_of ls)) (drop-cons lines i d below) ∙ ap (λ r. made_by l.number k r >>= λ next. loaded next rest) (fails k stands).0

pub line_refused : (Follows : PolicyObjects → Type 0) (m : Machine) (lines : List Line) (i : ℕ) (d : Line) (core next : Running) (e : LoadError) (f : StartError)
    → i < length lines → LoadedUpTo Follows m lines i core → Loads core next (get_or lines i d).text.now (Err e) → f ≡ load_fault (get_or lines i d).number e
    → Fails (model_of_fault f) (loaded m (map line_of lines))
line_refused Follows m lines i d core next error.UnknownKind f below h fails is =
    subst (λ x. Fails (model_of_fault x) (loaded m (map line_of lines))) (sym is) (refused_with Follows m lines i d core next unknown_kind below h fails)
line_refused Follows m lines i d core next (error.Object refused) f below h fails is =
    subst (λ x. Fails (model_of_fault x) (loaded m (map line_of lines))) (sym is) (refused_with Follows m lines i d core next (bad_object refused) below h fails)
line_refused Follows m lines i d core next (error.Store refused) f below h fails is =
    subst (λ x. Fails (model_of_fault x) (loaded m (map line_of lines))) (sym is) (refused_with Follows m lines i d core next (not_stored refused) below h fails)
line_refused Follows m lines i d core next error.Memory f below h fails is = subst (λ x. Fails (model_of_fault x) (loaded m (map line_of lines))) (sym is) tt

-- all lines are loaded
pub all_loaded : (Follows : PolicyObjects → Type 0) (m : Machine) (lines : List Line) (i : ℕ) (core : Running) → length lines ≤ i → LoadedUpTo Follows m lines i core
    → Reaches core Follows (Ok tt) (loaded m (map line_of lines))
unfolding loaded
all_loaded Follows m lines i core past (k, said, stands, follows) = (k, said ∙ ap (λ ls. loaded k (map line_of ls)) (drop_all i lines past), stands, follows)

-- so many turns are still to be made, on a machine whose policy has what is said of it
abbrev pub TurnedUpTo : (PolicyObjects → Type 0) → Machine → ℕ → Running → Type 0
TurnedUpTo Follows m left core = (k : Machine) × (turned 64 m ≡ turned left k) × Refines core k × Follows (policy_of k)

-- the policy after a turn
turn_policy : (core : Running) (m : Machine) (a : Answer) → Refines core m → a ≡ (step m event.Turn).0
    → policy_of (step m event.Turn).1 ≡ after_changes (changes_told a) (policy_of m)
turn_policy core m a stands is =
    event_tells m event.Turn (stands_in_order core.store m.changes m.store stands.store)
    ∙ ap (λ (b : Answer). after_changes (changes_told b) (policy_of m)) (sym is)

-- where there was no turn nothing was changed
no_turn : (m : Machine) → told.Nothing ≡ (step m event.Turn).0 → (step m event.Turn).1 ≡ m
unfolding step turn_step
no_turn m is = by_due (next (roles_in m.store.objects)) is
  where
    by_write : (name : List ℕ) (r : Result (List PlainChange) StoreFault) → told.Nothing ≡ (after_turn name r m).0 → (after_turn name r m).1 ≡ m
    by_write name (Ok changes) is = absurd (cc is)
    by_write name (Err fault) is = refl

    by_due : (due : Option Turn) → told.Nothing ≡ (turned_by due m).0 → (turned_by due m).1 ≡ m
    by_due None is = refl
    by_due (Some turn) is = by_write turn.name (rewriting turn m.store) is

still_none : (m : Machine) (left : ℕ) → told.Nothing ≡ (step m event.Turn).0 → turned left m ≡ m
unfolding turned
still_none m zero is = refl
still_none m (suc left) is = ap (turned left) (no_turn m is) ∙ still_none m left is

-- a turn was made
pub turn_made : (Before After : PolicyObjects → Type 0) (m : Machine) (left next_left : ℕ) (core next : Running) (t : Turned) → left ≡ suc next_left
    → TurnedUpTo Before m left core → Turns core next (Ok (Some t)) → ((objects : PolicyObjects) → Before objects → After (after_changes t.policy_changes objects))
    → TurnedUpTo After m next_left next
unfolding turned
turn_made Before After m left next_left core next t one (k, said, stands, follows) turns taken =
    let s = turns k stands in
    let policy : after_changes t.policy_changes (policy_of k) ≡ policy_of (step k event.Turn).1 = sym (turn_policy core k (told.Turned t) stands s.0) in
    ((step k event.Turn).1, said ∙ ap (λ n. turned n k) one, s.1, subst After policy (taken (policy_of k) follows))

-- there was no turn
pub no_turn_left : (Follows : PolicyObjects → Type 0) (m : Machine) (left : ℕ) (core next : Running) → TurnedUpTo Follows m left core → Turns core next (Ok None)
    → Reaches next Follows (Ok tt) (Ok (turned 64 m))
no_turn_left Follows m left core next (k, said, stands, follows) turns =
    let s = turns k stands in
    (k, ap Ok (said ∙ still_none k left s.0), subst (λ x. Refines next x) (no_turn k s.0) s.1, follows)

-- all turns were made
pub all_turned : (Follows : PolicyObjects → Type 0) (m : Machine) (left : ℕ) (core : Running) → left ≡ 0 → TurnedUpTo Follows m left core → Reaches core Follows (Ok tt) (Ok (turned 64 m))
unfolding turned
all_turned Follows m left core none (k, said, stands, follows) = (k, ap Ok (said ∙ ap (λ n. turned n k) none), stands, follows)

-- a fault stays one, whatever would follow
pub fault_kept : {A B F : Type 0} (fault : Option F) (given : Result A F) (rest : A → Result B F) → Fails fault given → Fails fault (given >>= rest)
fault_kept None given rest h = tt
fault_kept (Some e) given rest h = ap (λ r. r >>= rest) h

-- a fault that is handed on
pub reach_fault : (core : Running) (Follows : PolicyObjects → Type 0) (result : Result (Unit {0}) StartError) (e : StartError) (given : Result Machine FileFault)
    → IsErrAnd result (λ f. f ≡ e) → Fails (model_of_fault e) given → Reaches core Follows result given
reach_fault core Follows (Ok done) e given is h = absurd is
reach_fault core Follows (Err f) e given is h = subst (λ x. Fails (model_of_fault x) given) (sym is) h

-- all lines are loaded, and then turns are made
pub then_turned : (core next : Running) (Before After : PolicyObjects → Type 0) (result : Result (Unit {0}) StartError) (m : Machine) (lines : List NumberedLine)
    → Reaches core Before (Ok tt) (loaded m lines)
    → ((k : Machine) → Refines core k → Before (policy_of k) → Reaches next After result (Ok (turned 64 k))) → Reaches next After result (made_of m lines)
then_turned core next Before After result m lines (k, said, stands, follows) turns =
    let given : made_of m lines ≡ Ok (turned 64 k) = ap (λ r. r >>= λ n. Ok (turned 64 n)) said in
    subst (λ r. Reaches next After result r) (sym given) (turns k stands follows)
