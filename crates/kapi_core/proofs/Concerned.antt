-- Which watches the changes after a revision may concern.
use Rattle.std.proofs.Common.{◌≡◌, ℕ, Bool, true, false, ◌&&◌, ◌||◌, ◌==◌, ◌⊎◌, inl, inr, List, [], ◌∷◌, Option, Some, None, Result, Ok, Err, map, option_map, refl, sym, ap, ◌∙◌, subst}
use Rattle.std.specs.Prelude.{IfSome, nat_lt, if◌then◌else◌}
use Rattle.std.specs.BTreeMap.{is_at}
use Rattle.std.specs.List.{flat_map, list_any}
use Rattle.std.specs.Map.{lookup}
use Rattle.std.specs.Ordering.{nat_cmp}
use Rattle.std.specs.Str.{bytes_eq}
use Rattle.std.proofs.lemmas.Slice.Eq.{bytes_eq-Decides}
use Rattle.std.proofs.lemmas.Bool.{and_parts, eq-eqb, or_cases, or_left, or_right}
use Rattle.kapi_answer.specs.Watch.{PlainWatching}
use Rattle.kapi_answer.specs.declared.watch.Watching.{Watching}
use Rattle.kapi_rules.proofs.Law.{any_weaker}
use Rattle.kapi_rules.proofs.Parts.{any_flat_map, any_map}
use Rattle.kapi_store.specs.Listing.{is_asked, is_within}
use Rattle.kapi_store.specs.Plain.{PlainChange, changes_after, plain_change, window_start}
use Rattle.kapi_store.specs.declared.change.Change.{Change}
use Rattle.kapi_store.specs.declared.key.Key.{Key}
use Rattle.kapi_watch.specs.Watches.{later}
use Rattle.kapi_core.proofs.AlikeLinks.{link_missing, link_there}
use Rattle.kapi_core.specs.Fingerprints.{fingerprint_of, fingerprint_of_watch, fingerprint_on, fingerprint_some, fingerprints, is_among, is_concerned, is_of_policy, may_concern, watch_on}
use Rattle.kapi_core.specs.Machine.{Link, Machine, link_at}
use Rattle.kapi_core.specs.Refines.{AreWatching, Refines}
use Rattle.kapi_core.specs.Running.{Running}
use Rattle.kapi_core.specs.declared.connection.Connection.{Connection}

-- ---- the watch of a connection

pub fingerprint_nowhere : (r : Running) (m : Machine) (id : ℕ) → lookup (is_at (nat_cmp id)) r.connections ≡ None → Refines r m → None ≡ fingerprint_on (link_at id m)
fingerprint_nowhere r m id none h = sym (ap fingerprint_on (link_missing m.changes m.store (is_at (nat_cmp id)) r.connections m.links h.links none))

watched_alike : (m : Machine) (l : Link) (o : Option Watching) → AreWatching m.changes m.store o l.watching → (o ≡ None → None ≡ fingerprint_on (Some l))
    × ((r : Watching) → o ≡ Some r → Some (fingerprint_of r.watch.scope.row.group r.watch.scope.row.plural r.watch.scope.namespace) ≡ fingerprint_on (Some l))
watched_alike m l o are = by_both o l.watching refl are
  where
    by_both : (o : Option Watching) (w : Option PlainWatching) → l.watching ≡ w → AreWatching m.changes m.store o w → (o ≡ None → None ≡ fingerprint_on (Some l))
        × ((r : Watching) → o ≡ Some r → Some (fingerprint_of r.watch.scope.row.group r.watch.scope.row.plural r.watch.scope.namespace) ≡ fingerprint_on (Some l))
    by_both None None is h = (λ e. rw is refl, λ r e. absurd (cc e))
    by_both None (Some w) is h = absurd h
    by_both (Some r) None is h = absurd h
    by_both (Some r) (Some w) is h = (λ e. absurd (cc e), λ q e. let same : r ≡ q = cc e in let scope = h.0.scope in rw (is, sym same, scope) refl)

pub fingerprint_idle : (r : Running) (m : Machine) (id : ℕ) (c : Connection) → lookup (is_at (nat_cmp id)) r.connections ≡ Some c → c.watching ≡ None → Refines r m → None ≡ fingerprint_on (link_at id m)
fingerprint_idle r m id c there idle h =
    let found = link_there m.changes m.store (is_at (nat_cmp id)) r.connections m.links c h.links there in
    (watched_alike m found.0 c.watching found.2.watching).0 idle ∙ sym (ap fingerprint_on found.1)

pub fingerprint_there : (r : Running) (m : Machine) (id : ℕ) (c : Connection) (w : Watching) → lookup (is_at (nat_cmp id)) r.connections ≡ Some c → c.watching ≡ Some w → Refines r m
    → Some (fingerprint_of w.watch.scope.row.group w.watch.scope.row.plural w.watch.scope.namespace) ≡ fingerprint_on (link_at id m)
fingerprint_there r m id c w there runs h =
    let found = link_there m.changes m.store (is_at (nat_cmp id)) r.connections m.links c h.links there in
    (watched_alike m found.0 c.watching found.2.watching).1 w runs ∙ sym (ap fingerprint_on found.1)

-- ---- lists

any_flat : {X : Type 0} (q : X → Bool) (f : X → List ℕ) (t : ℕ → Bool) (xs : List X) → ((x : X) → q x ≡ true → list_any t (f x) ≡ true) → list_any q xs ≡ true → list_any t (flat_map f xs) ≡ true
any_flat q f t xs each h = any_flat_map t f xs ∙ any_weaker q (λ x. list_any t (f x)) xs each h

any_other : {X : Type 0} (p q : X → Bool) (xs : List X) → list_any p xs ≡ false → list_any (λ x. p x || q x) xs ≡ true → list_any q xs ≡ true
any_other p q [] none h = h
any_other p q (x ∷ xs) none h = by_case (p x) (list_any p xs) none h (any_other p q xs)
  where
    by_case : (a b : Bool) → (a || b) ≡ false → ((a || q x) || list_any (λ y. p y || q y) xs) ≡ true → (b ≡ false → list_any (λ y. p y || q y) xs ≡ true → list_any q xs ≡ true) → (q x || list_any q xs) ≡ true
    by_case true b none h more = absurd (cc none)
    by_case false b none h more = by_first (or_cases (q x) (list_any (λ y. p y || q y) xs) h)
      where
        by_first : (q x ≡ true) ⊎ (list_any (λ y. p y || q y) xs ≡ true) → (q x || list_any q xs) ≡ true
        by_first (inl here) = or_left (q x) (list_any q xs) here
        by_first (inr others) = or_right (q x) (list_any q xs) (more none others)

pub some_both : {X : Type 0} (o : Option X) (P Q R : X → Type 0) → ((x : X) → P x → Q x → R x) → IfSome o P → IfSome o Q → IfSome o R
some_both None P Q R leads one other = tt
some_both (Some x) P Q R leads one other = leads x one other

-- ---- a key within the scope of a watch

within_has : (w : PlainWatching) (k : Key) → is_within w.watch.scope.row w.watch.scope.namespace w.watch.scope.name k ≡ true → list_any (λ n. n == fingerprint_of_watch w) (fingerprints k) ≡ true
within_has w k h =
    let s = w.watch.scope in
    let one = and_parts (bytes_eq s.row.group k.group) (bytes_eq s.row.plural k.resource && (is_asked s.namespace k.namespace && is_asked s.name k.name)) h in
    let two = and_parts (bytes_eq s.row.plural k.resource) (is_asked s.namespace k.namespace && is_asked s.name k.name) one.1 in
    let three = and_parts (is_asked s.namespace k.namespace) (is_asked s.name k.name) two.1 in
    let group : s.row.group ≡ k.group = (bytes_eq-Decides s.row.group k.group).0 one.0 in
    let resource : s.row.plural ≡ k.resource = (bytes_eq-Decides s.row.plural k.resource).0 two.0 in
    rw (group, resource) (by_namespace s.namespace three.0)
  where
    own : (n : ℕ) → (n == n) ≡ true
    own n = eq-eqb n n refl

    by_namespace : (namespace : List ℕ) → is_asked namespace k.namespace ≡ true → list_any (λ n. n == fingerprint_of k.group k.resource namespace) (fingerprints k) ≡ true
    by_namespace [] asked = or_right (fingerprint_of k.group k.resource k.namespace == fingerprint_of k.group k.resource []) _ (or_left _ false (own (fingerprint_of k.group k.resource [])))
    by_namespace (b ∷ bs) asked =
        let same : b ∷ bs ≡ k.namespace = (bytes_eq-Decides (b ∷ bs) k.namespace).0 asked in
        subst (λ (x : List ℕ). list_any (λ n. n == fingerprint_of k.group k.resource x) (fingerprints k) ≡ true) (sym same) (or_left _ _ (own (fingerprint_of k.group k.resource k.namespace)))

-- ---- changes

-- the changes that are lent are those after the revision
abbrev lent_if : Bool → List PlainChange → Result (List PlainChange) (Unit {0})
lent_if gone changes = if gone then Err tt else Ok changes

ok_same : (xs ys : List PlainChange) → lent_if false xs ≡ Ok ys → xs ≡ ys
ok_same xs ys h = cc h

lent_later : (history : List PlainChange) (m : Machine) (revision : ℕ) (cs : List PlainChange) → changes_after history m.store revision ≡ Ok cs → later revision history ≡ cs
unfolding changes_after
lent_later history m revision cs is = by_case (nat_lt revision (window_start m.store)) is
  where
    by_case : (gone : Bool) → lent_if gone (later revision history) ≡ Ok cs → later revision history ≡ cs
    by_case true is = absurd (cc is)
    by_case false is = ok_same (later revision history) cs is

-- a watch that some change may concern is among those of their fingerprints
pub concerned_among : (m : Machine) (numbers : List ℕ) (cs : List Change) (revision id : ℕ) → numbers ≡ flat_map (λ (c : Change). fingerprints c.key) cs → list_any (λ (c : Change). is_of_policy c.key) cs ≡ false
    → changes_after m.changes m.store revision ≡ Ok (map plain_change cs) → is_concerned m id revision ≡ true → is_among numbers (fingerprint_on (link_at id m)) ≡ true
concerned_among m numbers cs revision id are others lent concerned = by_watch (watch_on (link_at id m)) (subst (λ ds. fingerprint_some ds (watch_on (link_at id m)) ≡ true) (lent_later m.changes m revision (map plain_change cs) lent) concerned)
  where
    by_watch : (o : Option PlainWatching) → fingerprint_some (map plain_change cs) o ≡ true → is_among numbers (option_map fingerprint_of_watch o) ≡ true
    by_watch None h = absurd (cc h)
    by_watch (Some w) h =
        let within : Change → Bool = λ c. is_within w.watch.scope.row w.watch.scope.namespace w.watch.scope.name c.key in
        let some : list_any (λ (c : Change). may_concern w c.key) cs ≡ true = sym (any_map (λ (c : PlainChange). may_concern w c.key) plain_change cs) ∙ h in
        subst (λ ns. list_any (λ n. n == fingerprint_of_watch w) ns ≡ true) (sym are)
        (any_flat within (λ (c : Change). fingerprints c.key) (λ n. n == fingerprint_of_watch w) cs (λ c is. within_has w c.key is) (any_other (λ (c : Change). is_of_policy c.key) within cs others some))
