-- All the changes ever of a machine are a history.
use Rattle.std.proofs.Common.{◌≡◌, ℕ, ◌+◌, List, [], ◌∷◌, ◌++◌, length, Bool, Option, Some, None, Result, Ok, Err, codes, refl, sym, ap, ◌∙◌, subst, arith, append-nil, append_assoc, length-append}
use Rattle.std.proofs.lemmas.List.{map-append}
use Rattle.std.specs.List.{AllByRecursion, fold}
use Rattle.std.specs.Map.{lookup}
use Rattle.std.specs.Option.{option_and_then, unwrap_or}
use Rattle.std.specs.Str.{chars}
use Rattle.serde_json.specs.Data.{Data, array}
use Rattle.serde_json.specs.Find.{as_str, get}
use Rattle.kapi_object.proofs.OnLiterals.{admission_on_literals}
use Rattle.kapi_object.specs.Admission.{BodyFault, object_of}
use Rattle.kapi_aggregation.specs.Rewriting.{rewriting, rewriting_of, role_key, with_rules}
use Rattle.kapi_answer.proofs.Histories.{answers_write, loads_create}
use Rattle.kapi_answer.specs.Histories.{AreNamed, IsWrite}
use Rattle.kapi_answer.specs.Histories as write
use Rattle.kapi_answer.specs.Load.{LoadFault, loads}
use Rattle.kapi_http.specs.Cut.{first}
use Rattle.kapi_model.specs.declared.policy_rule.PolicyRule.{PolicyRule}
use Rattle.kapi_model.specs.declared.row.ResourceRow.{ResourceRow}
use Rattle.kapi_object.proofs.Puts.{put_other}
use Rattle.kapi_object.specs.Contents.{rule_tree, write_items}
use Rattle.kapi_object.specs.Tree.{members_or_none}
use Rattle.kapi_store.proofs.Places.{replacement_is_in_place}
use Rattle.kapi_store.proofs.Writes.{placed_all_append}
use Rattle.kapi_store.specs.Changes.{placed_all}
use Rattle.kapi_store.specs.Faults.{StoreFault}
use Rattle.kapi_store.specs.Keys.{is_key}
use Rattle.kapi_store.specs.Plain.{Plain, PlainChange, creation, trees_left_by, written}
use Rattle.kapi_store.specs.declared.key.Key.{Key}
use Rattle.kapi_watch.proofs.Histories.{AreNext, counted_goes_on, creation_is_next, next_none, no_change, removal_is_next, replacement_is_next}
use Rattle.kapi_watch.proofs.Lists.{Keeps, history_keeps, standing_is_named}
use Rattle.kapi_object.proofs.SetTexts.{in_object}
use Rattle.kapi_watch.specs.Histories.{IsHistory, IsNamedBy, IsReplacement}
use Rattle.kapi_watch.specs.Lists.{objects_after}
use Rattle.kapi_core.proofs.Effects.{FaultKind, Effect, effect}
use Rattle.kapi_core.proofs.Effects as effects
use Rattle.kapi_core.proofs.Opened.{opened_tree, tree_in}
use Rattle.kapi_core.specs.Histories.{EventsGoOn, LoadsGoOn, ServedIsAHistory, TurnsReplace, loaded, loaded_if, served}
use Rattle.kapi_core.specs.Machine.{Machine, after, changed, policy_of, step, with_rechecks}
use Rattle.kapi_core.specs.Opening.{OpeningObject, basic_user, basic_user_binding, cluster_admin, cluster_admin_binding, cluster_key, created_if, default_namespace, empty, opening, opening_objects, with_opening, written_if}
use Rattle.kapi_core.specs.Running.{Running}
use Rattle.kapi_core.specs.Refines.{Refines}
use Rattle.kapi_core.specs.declared.event.Event.{Event}

-- all the changes of a machine are a history from this revision on, which made its objects and which its revision
-- counts
pub record HasHistory (first : ℕ) (m : Machine) : Type 0 where
  pub begins : m.store.first ≡ first
  pub objects : m.store.objects ≡ objects_after m.changes
  pub counted : m.store.revision ≡ first + length m.changes
  pub history : IsHistory first m.changes

-- the objects of a machine with a history are in order, and named by their keys
pub are_named : (first : ℕ) (m : Machine) → HasHistory first m → AreNamed m.store.objects
are_named first m h =
    let k : Keeps (objects_after m.changes) = history_keeps first m.changes h.history in
    let P : List (Key × Data) → Type 0 = AreNamed in
    subst P (sym h.objects) (record { sorted = k.sorted; named = k.named })

-- what one write makes is made next
write_next : (s : Plain) (cs : List PlainChange) → IsWrite s cs → AreNext s cs
write_next s cs (write.nothing none) = let P : List PlainChange → Type 0 = AreNext s in subst P (sym none) (next_none s)
write_next s cs (write.creates w) = creation_is_next s cs w
write_next s cs (write.replaces w) = replacement_is_next s cs w
write_next s cs (write.removes w) = removal_is_next s cs w

-- ---- a step of a machine

-- some changes of one write were made
pub record Writes (m n : Machine) : Type 0 where
  pub changes : List PlainChange
  pub one : IsWrite m.store changes
  pub store : n.store ≡ written changes m.store
  pub told : n.changes ≡ m.changes ++ changes

made_objects : (h cs : List PlainChange) (os : List (Key × Data)) → os ≡ objects_after h → placed_all (trees_left_by cs) os ≡ objects_after (h ++ cs)
made_objects h cs os is =
    ap (placed_all (trees_left_by cs)) is
    ∙ sym (placed_all_append (trees_left_by h) (trees_left_by cs) [])
    ∙ ap (λ ws. placed_all ws []) (sym (map-append (λ c. (c.key, c.new)) h cs))

made_count : (first revision : ℕ) (h cs : List PlainChange) → revision ≡ first + length h → revision + length cs ≡ first + length (h ++ cs)
made_count first revision h cs is = rw (length-append h cs) (omega (arith, is))

goes_on : (m : Machine) (cs : List PlainChange) → HasHistory m.store.first m → IsWrite m.store cs → HasHistory m.store.first (changed cs m)
goes_on m cs h one = record {
  begins = refl;
  objects = made_objects m.changes cs m.store.objects h.objects;
  counted = made_count m.store.first m.store.revision m.changes cs h.counted;
  history = counted_goes_on m.changes cs m.store h.objects h.counted h.history (write_next m.store cs one);
}

-- a machine has a history by its store and its changes alone
same_history : (first : ℕ) (m n : Machine) → n.store ≡ m.store → n.changes ≡ m.changes → HasHistory first m → HasHistory first n
same_history first m n store changes h = record {
  begins = ap (λ s. s.first) store ∙ h.begins;
  objects = ap (λ s. s.objects) store ∙ h.objects ∙ ap objects_after (sym changes);
  counted = ap (λ s. s.revision) store ∙ h.counted ∙ ap (λ cs. first + length cs) (sym changes);
  history = let P : List PlainChange → Type 0 = IsHistory first in subst P (sym changes) h.history;
}

written_goes_on : (first : ℕ) (m : Machine) (cs : List PlainChange) → HasHistory first m → IsWrite m.store cs → HasHistory first (changed cs m)
written_goes_on first m cs h one =
    let P : ℕ → Type 0 = λ f. HasHistory f m in
    let Q : ℕ → Type 0 = λ f. HasHistory f (changed cs m) in
    subst Q h.begins (goes_on m cs (subst P (sym h.begins) h) one)

pub writes_go_on : (first : ℕ) (m n : Machine) → HasHistory first m → Writes m n → HasHistory first n
writes_go_on first m n h w = same_history first (changed w.changes m) n w.store w.told (written_goes_on first m w.changes h w.one)

-- ---- a turn

-- other rules leave the metadata as it is
rules_named : (k : Key) (rules : List PolicyRule) (old : Data) → IsNamedBy k old → IsNamedBy k (with_rules rules old)
rules_named k rules old h =
    let same : get (codes "metadata") (with_rules rules old) ≡ get (codes "metadata") old =
    put_other (codes "metadata") (codes "rules") (array (write_items rule_tree rules)) (members_or_none (Some old)) refl ∙ in_object (codes "metadata") old in
    let told : List ℕ → Option Data → List ℕ = λ q o. unwrap_or (option_and_then as_str (option_and_then (get q) o)) [] in
    (ap (told (codes "namespace")) same ∙ h.0, ap (told (codes "name")) same ∙ h.1)

rewriting_replaces : (k : Key) (rules : List PolicyRule) (s : Plain) (cs : List PlainChange) → AreNamed s.objects → (o : Option Data) → lookup (is_key k) s.objects ≡ o
    → rewriting_of k rules s o ≡ Ok cs → IsReplacement s cs
rewriting_replaces k rules s cs named None at is = absurd (cc is)
rewriting_replaces k rules s cs named (Some old) at is = (
  k,
  with_rules rules old,
  rules_named k rules old (standing_is_named k old s.objects named.named at),
  replacement_is_in_place s k (with_rules rules old) cs is,
)

-- the changes of a turn are those of a replacement
pub turn_replaces : TurnsReplace
unfolding rewriting
turn_replaces turn s cs named is = rewriting_replaces (role_key turn.name) turn.rules s cs named (lookup (is_key (role_key turn.name)) s.objects) refl is

-- ---- events

-- what an event writes is one write
one_write : (m : Machine) (e : Event) (changes : List PlainChange) → FaultKind m e changes → AreNamed m.store.objects → IsWrite m.store changes
one_write m e changes (effects.none is) named = write.nothing is
one_write m e changes (effects.request conn l item of at is) named =
    let P : List PlainChange → Type 0 = IsWrite m.store in subst P (sym is) (answers_write (policy_of m) m.store l.identity item named)
one_write m e changes (effects.turn turn comes is) named = write.replaces (turn_replaces turn m.store changes named is)

pub event_writes : (m : Machine) (e : Event) → AreNamed m.store.objects → Writes m (step m e).1
event_writes m e named =
    let x : Effect m e (step m e) = effect m e in record { changes = x.changes; one = one_write m e x.changes x.cause named; store = x.store; told = x.all }

pub events_go_on : (first : ℕ) (m : Machine) (es : List Event) → HasHistory first m → HasHistory first (after m es)
unfolding after
events_go_on first m [] h = h
events_go_on first m (e ∷ es) h = events_go_on first (step m e).1 es (writes_go_on first m (step m e).1 h (event_writes m e (are_named first m h)))

-- the changes before some events, and more
pub record Grows (m n : Machine) : Type 0 where
  pub more : List PlainChange
  pub told : n.changes ≡ m.changes ++ more

pub events_grow : (first : ℕ) (m : Machine) (es : List Event) → HasHistory first m → Grows m (after m es)
unfolding after
events_grow first m [] h = record { more = []; told = sym (append-nil m.changes) }
events_grow first m (e ∷ es) h =
    let w : Writes m (step m e).1 = event_writes m e (are_named first m h) in
    let rest : Grows (step m e).1 (after (step m e).1 es) = events_grow first (step m e).1 es (writes_go_on first m (step m e).1 h w) in
    record { more = w.changes ++ rest.more; told = rest.told ∙ ap (λ cs. cs ++ rest.more) w.told ∙ append_assoc m.changes w.changes rest.more }

-- ---- objects that are loaded

load_goes_on : (first : ℕ) (m : Machine) (text : List ℕ) → HasHistory first m → (r : Result (List PlainChange) LoadFault) → loads m.store text ≡ r → HasHistory first (loaded_if m r)
load_goes_on first m text h (Ok cs) is = written_goes_on first m cs h (write.creates (loads_create m.store text cs is))
load_goes_on first m text h (Err fault) is = h

loads_go_on : (first : ℕ) (m : Machine) (texts : List (List ℕ)) → HasHistory first m → HasHistory first (loaded m texts)
unfolding loaded
loads_go_on first m [] h = h
loads_go_on first m (text ∷ texts) h = loads_go_on first (loaded_if m (loads m.store text)) texts (load_goes_on first m text h (loads m.store text) refl)

-- ---- the opening

-- what an opening object is read as has the namespace and the name of its place
abbrev IsNamedOpening : OpeningObject → Type 0
IsNamedOpening o = IsNamedBy (cluster_key o.row o.name) (opened_tree o)

default_named : IsNamedOpening default_namespace
unfolding admission_on_literals chars tree_in
default_named = (refl, refl)

admin_named : IsNamedOpening cluster_admin
unfolding admission_on_literals chars tree_in
admin_named = (refl, refl)

user_named : IsNamedOpening basic_user
unfolding admission_on_literals chars tree_in
user_named = (refl, refl)

admins_named : IsNamedOpening cluster_admin_binding
unfolding admission_on_literals chars tree_in
admins_named = (refl, refl)

users_named : IsNamedOpening basic_user_binding
unfolding admission_on_literals chars tree_in
users_named = (refl, refl)

all_named : AllByRecursion IsNamedOpening opening_objects
unfolding opening_objects
all_named = (default_named, (admin_named, (user_named, (admins_named, (users_named, tt)))))

created_goes_on : (first : ℕ) (m : Machine) (k : Key) (tree : Data) → HasHistory first m → IsNamedBy k tree → (r : Result (List PlainChange) StoreFault) → creation m.store k tree ≡ r
    → HasHistory first (written_if m r)
created_goes_on first m k tree h named (Ok cs) is = written_goes_on first m cs h (write.creates (k, tree, named, is))
created_goes_on first m k tree h named (Err fault) is = h

body_goes_on : (first : ℕ) (m : Machine) (k : Key) → HasHistory first m → (r : Result Data BodyFault) → IsNamedBy k (tree_in r) → HasHistory first (created_if m k r)
unfolding tree_in
body_goes_on first m k h (Ok tree) named = created_goes_on first m k tree h named (creation m.store k tree) refl
body_goes_on first m k h (Err fault) named = h

openings_go_on : (first : ℕ) (os : List OpeningObject) (m : Machine) → AllByRecursion IsNamedOpening os → HasHistory first m → HasHistory first (fold with_opening m os)
unfolding with_opening
openings_go_on first [] m named h = h
openings_go_on first (o ∷ os) m named h = openings_go_on first os (with_opening m o) named.1 (body_goes_on first m (cluster_key o.row o.name) h (object_of o.row o.body) named.0)

empty_has : (table : List ResourceRow) (from : ℕ) → HasHistory from (empty table from)
unfolding placed_all
empty_has table from = record { begins = refl; objects = refl; counted = omega arith; history = no_change from }

opening_has : (table : List ResourceRow) (first : ℕ) → HasHistory first (opening table first)
unfolding opening
opening_has table first = openings_go_on first opening_objects (empty table first) all_named (empty_has table first)

-- ---- all of them

-- the switch leaves the history as it is
switched_has : (first : ℕ) (on : Bool) (m : Machine) → HasHistory first m → HasHistory first (with_rechecks on m)
switched_has first on m h = record { begins = h.begins; objects = h.objects; counted = h.counted; history = h.history }

pub served_has : (on : Bool) (table : List ResourceRow) (first : ℕ) (texts : List (List ℕ)) (events : List Event) → HasHistory first (served on table first texts events)
served_has on table first texts events =
    let m : Machine = loaded (opening table first) texts in
    events_go_on first (with_rechecks on m) events (switched_has first on m (loads_go_on first (opening table first) texts (opening_has table first)))

pub served_is_a_history : ServedIsAHistory
served_is_a_history on table first texts events = (served_has on table first texts events).history

-- a machine refined by a running one, whose changes are a history, has that history
stands_has : (core : Running) (m : Machine) → Refines core m → IsHistory m.store.first m.changes → HasHistory m.store.first m
stands_has core m stands k = record { begins = refl; objects = stands.store.made; counted = stands.store.counted; history = k }

pub stood_for_goes_on : EventsGoOn
stood_for_goes_on core m events stands k = (events_go_on m.store.first m events (stands_has core m stands k)).history

pub stood_for_loads : LoadsGoOn
stood_for_loads core m text cs stands k is = (load_goes_on m.store.first m text (stands_has core m stands k) (Ok cs) is).history
