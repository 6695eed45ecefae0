-- The next turn, found among the marked roles, and the names that it leaves.
use Rattle.std.proofs.Common.{◌≡◌, inl, inr, ℕ, List, [], ◌∷◌, Bool, true, false, cond, ◌||◌, Option, Some, None, option_and_then, option_map, refl, sym, ap, ◌∙◌, subst}
use Rattle.std.proofs.lemmas.Map.Text.{is_eq-slice_cmp}
use Rattle.std.specs.Cmp.Lexicographic.{nat_list_cmp_total, slice_cmp}
use Rattle.std.specs.List.{AllByRecursion, filter}
use Rattle.std.specs.List.Sorted.{IsStrictlySortedBy}
use Rattle.std.specs.Map.{keys_of, lookup}
use Rattle.std.specs.Option.{option_or}
use Rattle.std.specs.Ordering.{is_eq, is_le, nat_cmp, ordering_reverse}
use Rattle.std.specs.declared.cmp.Ordering.{Ordering}
use Rattle.std.specs.declared.cmp.Ordering.TheVariants.{Less, Equal, Greater}
use Rattle.serde_json.specs.Data.{Data}
use Rattle.kapi_store.specs.Keys.{is_key, key_cmp}
use Rattle.kapi_store.specs.Plain.{plain_of}
use Rattle.kapi_store.specs.State.{IsStore, State, objects}
use Rattle.kapi_store.specs.declared.key.Key.{Key}
use Rattle.kapi_aggregation.specs.Rewriting.{role_key}
use Rattle.kapi_aggregation.specs.Roles.{IsInNameOrder, Labelled, is_cluster_role, labelled_at, labelled_tree, names_of, roles_in}
use Rattle.kapi_aggregation.specs.Turns.{differs, first_some, next, turn_at, turn_of}
use Rattle.kapi_aggregation.specs.Marks.{Covers, IsCovered, Tracked, is_marked, left_by, marks_after, marks_from, role_at, turn_if_marked, turn_of_name}
use Rattle.kapi_aggregation.specs.declared.turn.Turn.{Turn}
use Rattle.kapi_aggregation.proofs.Lists.{all_at, all_from, has_kept, has_mapped, itself, kept_of, mapped_of, same_text}
use Rattle.kapi_aggregation.proofs.Noting.{role_found}
use Rattle.kapi_aggregation.proofs.Placed.{key_is}
use Rattle.kapi_aggregation.proofs.Read.{keys_of_trees, read_order}
use Rattle.kapi_aggregation.specs.Members.{Has}

-- ---- the first marked one is the first one

found_among : (t : Tracked) (roles rs : List Labelled) → AllByRecursion (IsCovered t roles) rs
    → first_some (turn_if_marked t.marks roles) rs ≡ first_some (turn_at roles) rs
found_among t roles [] covers = refl
found_among t roles (r ∷ rs) covers = ap (λ (o : Option Turn). option_or o (first_some (turn_if_marked t.marks roles) rs)) here ∙ ap (option_or (turn_at roles r)) (found_among t roles rs covers.1)
  where
    by_case : (d m : Bool) → differs roles r ≡ d → is_marked t.marks r.name ≡ m
        → cond m (cond d (Some (turn_of roles r)) None) None ≡ cond d (Some (turn_of roles r)) None
    by_case true true is marked = refl
    by_case true false is marked = absurd (let never = covers.0.1 is in cc)
    by_case false true is marked = refl
    by_case false false is marked = refl

    here : turn_if_marked t.marks roles r ≡ turn_at roles r
    here = by_case (differs roles r) (is_marked t.marks r.name) refl refl

pub found_where_covered : (t : Tracked) (roles : List Labelled) → Covers t roles → first_some (turn_if_marked t.marks roles) roles ≡ next roles
found_where_covered t roles covers = found_among t roles roles covers

-- without a mark none is found
pub none_unmarked : (roles rs : List Labelled) → first_some (turn_if_marked [] roles) rs ≡ None
none_unmarked roles [] = refl
none_unmarked roles (r ∷ rs) = none_unmarked roles rs

-- ---- the marks that stay

less_is : (o : Ordering) → o ≡ Less → is_le o ≡ true
less_is o is = ap is_le is

equal_is : (o : Ordering) → is_eq o ≡ true → is_le o ≡ true
equal_is Less h = absurd (cc h)
equal_is Equal h = refl
equal_is Greater h = absurd (cc h)

compares : (k : List ℕ) → is_eq (slice_cmp nat_cmp k k) ≡ true
compares k = is_eq-slice_cmp k k ∙ itself k

same_name : (n m : List ℕ) → is_eq (slice_cmp nat_cmp n m) ≡ true → n ≡ m
same_name n m h = same_text n m (sym (is_eq-slice_cmp n m) ∙ h)

-- a mark from the name on stays
from_keeps : (marks : List (List ℕ)) (name n : List ℕ) → is_le (slice_cmp nat_cmp name n) ≡ true → is_marked marks n ≡ true → is_marked (marks_from marks name) n ≡ true
from_keeps [] name n on h = absurd (cc h)
from_keeps (m ∷ ms) name n on h = by_case (is_eq (slice_cmp nat_cmp n m)) (is_le (slice_cmp nat_cmp name m)) refl refl (from_keeps ms name n on) h
  where
    by_case : (e k : Bool) → is_eq (slice_cmp nat_cmp n m) ≡ e → is_le (slice_cmp nat_cmp name m) ≡ k → (is_marked ms n ≡ true → is_marked (marks_from ms name) n ≡ true) → (e || is_marked ms n) ≡ true
        → is_marked (cond k (m ∷ marks_from ms name) (marks_from ms name)) n ≡ true
    by_case true true same kept rest g = rw same refl
    by_case true false same kept rest g = absurd (let at : n ≡ m = same_name n m same in let never : is_le (slice_cmp nat_cmp name n) ≡ false = rw at kept in cc)
    by_case false true same kept rest g = rw same (rest g)
    by_case false false same kept rest g = rest g

-- if none is to be turned, no role differs
none_differs : (roles rs : List Labelled) → first_some (turn_at roles) rs ≡ None → (r : Labelled) → Has rs r → differs roles r ≡ true → ⊥
none_differs roles [] h r has d = absurd has
none_differs roles (y ∷ rs) h r has d = by_case (differs roles y) refl (none_differs roles rs) h has
  where
    by_case : (b : Bool) → differs roles y ≡ b → (first_some (turn_at roles) rs ≡ None → (q : Labelled) → Has rs q → differs roles q ≡ true → ⊥)
        → option_or (cond b (Some (turn_of roles y)) None) (first_some (turn_at roles) rs) ≡ None → Has (y ∷ rs) r → ⊥
    by_case true is rest none there = cc none
    by_case false is rest none (inl same) = let never : differs roles r ≡ false = rw (← same) is in cc (never, d)
    by_case false is rest none (inr there) = rest none r there d

-- the names of the others are above the first
above : (name : List ℕ) (rs : List Labelled) → AllByRecursion (λ m. slice_cmp nat_cmp name m ≡ Less) (names_of rs) → (r : Labelled) → Has rs r → is_le (slice_cmp nat_cmp name r.name) ≡ true
above name [] h r has = absurd has
above name (y ∷ rs) h r (inl same) = rw (← same) (less_is (slice_cmp nat_cmp name y.name) h.0)
above name (y ∷ rs) h r (inr has) = above name rs h.1 r has

same_turn : (t turn : Turn) → Some t ≡ Some turn → t ≡ turn
same_turn t turn h = cc h

-- what differs is not before the first that does
on_from : (roles rs : List Labelled) (turn : Turn) → IsStrictlySortedBy (slice_cmp nat_cmp) (names_of rs) → first_some (turn_at roles) rs ≡ Some turn
    → (r : Labelled) → Has rs r → differs roles r ≡ true → is_le (slice_cmp nat_cmp turn.name r.name) ≡ true
unfolding IsStrictlySortedBy
on_from roles [] turn sorted is r has d = absurd (cc is)
on_from roles (y ∷ rs) turn sorted is r has d = by_case (differs roles y) refl (λ found there. on_from roles rs turn sorted.1 found r there d) is has
  where
    by_case : (b : Bool) → differs roles y ≡ b → (first_some (turn_at roles) rs ≡ Some turn → Has rs r → is_le (slice_cmp nat_cmp turn.name r.name) ≡ true) → option_or (cond b (Some (turn_of roles y)) None) (first_some (turn_at roles) rs) ≡ Some turn
        → Has (y ∷ rs) r → is_le (slice_cmp nat_cmp turn.name r.name) ≡ true
    by_case true here rest found (inl same) =
        let name : y.name ≡ turn.name = ap (λ (t : Turn). t.name) (same_turn (turn_of roles y) turn found) in
        rw (← name, ← same) (equal_is (slice_cmp nat_cmp y.name y.name) (compares y.name))
    by_case true here rest found (inr there) =
        let name : y.name ≡ turn.name = ap (λ (t : Turn). t.name) (same_turn (turn_of roles y) turn found) in
        rw (← name) (above y.name rs sorted.0 r there)
    by_case false here rest found (inl same) = absurd (let never : differs roles r ≡ false = rw (← same) here in cc)
    by_case false here rest found (inr there) = rest found there

-- each role that differs is marked after the turn as well
marks_stay : (t : Tracked) (roles : List Labelled) → IsInNameOrder roles → Covers t roles → (turn : Option Turn) → turn ≡ next roles
    → (r : Labelled) → Has roles r → differs roles r ≡ true → is_marked (marks_after t.marks turn) r.name ≡ true
marks_stay t roles sorted covers None is r has d = absurd (none_differs roles roles (sym is) r has d)
marks_stay t roles sorted covers (Some turn) is r has d =
    let marked = all_at (IsCovered t roles) roles r covers has in from_keeps t.marks turn.name r.name (on_from roles roles turn sorted (sym is) r has d) (marked.1 d)

-- what is kept after the turn covers the roles as well
pub turn_covers : (t : Tracked) (roles : List Labelled) → IsInNameOrder roles → Covers t roles → (turn : Option Turn) → turn ≡ next roles → Covers (left_by t roles turn) roles
turn_covers t roles sorted covers turn is =
    all_from (IsCovered (left_by t roles turn) roles) roles (λ r has. ((all_at (IsCovered t roles) roles r covers has).0, marks_stay t roles sorted covers turn is r has))

-- what is kept after a turn covers the roles, as a call makes it
pub next_covers : (old new : Tracked) (slice roles : List Labelled) (turn : Option Turn) → slice ≡ roles → IsInNameOrder roles
    → turn ≡ first_some (turn_if_marked old.marks slice) slice → new.marks ≡ marks_after old.marks turn → new.takers ≡ old.takers → new.givers ≡ old.givers → Covers old roles → Covers new roles
next_covers old new slice roles turn same order is marks takers givers covers =
    let left : new ≡ left_by old roles turn = λ i. record { marks = marks i; takers = takers i; givers = givers i } in
    rw left (turn_covers old roles order covers turn
    (is ∙ ap (λ (rs : List Labelled). first_some (turn_if_marked old.marks rs) rs) same ∙ found_where_covered old roles covers))

-- ---- the turn that is found by the marks

none_next : (roles rs : List Labelled) → ((r : Labelled) → Has rs r → differs roles r ≡ true → ⊥) → first_some (turn_at roles) rs ≡ None
none_next roles [] none = refl
none_next roles (y ∷ rs) none = by_case (differs roles y) refl (none_next roles rs (λ r has. none r (inr has)))
  where
    by_case : (b : Bool) → differs roles y ≡ b → first_some (turn_at roles) rs ≡ None → option_or (cond b (Some (turn_of roles y)) None) (first_some (turn_at roles) rs) ≡ None
    by_case true is rest = absurd (none y (inl refl) is)
    by_case false is rest = rest

less_not_up : (a b : List ℕ) → slice_cmp nat_cmp a b ≡ Less → is_le (slice_cmp nat_cmp b a) ≡ true → ⊥
less_not_up a b less up =
    let back : slice_cmp nat_cmp b a ≡ Greater = nat_list_cmp_total.antisymm b a ∙ ap ordering_reverse less in
    let never : is_le (slice_cmp nat_cmp b a) ≡ false = ap is_le back in cc (never, up)

-- of the roles that differ the one of least name is the next
least_next : (roles rs : List Labelled) → IsStrictlySortedBy (slice_cmp nat_cmp) (names_of rs) → (r : Labelled) → Has rs r → differs roles r ≡ true
    → ((q : Labelled) → Has rs q → differs roles q ≡ true → is_le (slice_cmp nat_cmp r.name q.name) ≡ true) → first_some (turn_at roles) rs ≡ Some (turn_of roles r)
unfolding IsStrictlySortedBy
least_next roles [] sorted r has d up = absurd has
least_next roles (y ∷ rs) sorted r has d up = by_case (differs roles y) refl (λ there. least_next roles rs sorted.1 r there d (λ q in_rs. up q (inr in_rs))) has
  where
    by_case : (b : Bool) → differs roles y ≡ b → (Has rs r → first_some (turn_at roles) rs ≡ Some (turn_of roles r)) → Has (y ∷ rs) r
        → option_or (cond b (Some (turn_of roles y)) None) (first_some (turn_at roles) rs) ≡ Some (turn_of roles r)
    by_case true is rest (inl same) = ap (λ q. Some (turn_of roles q)) same
    by_case true is rest (inr there) = absurd (less_not_up y.name r.name (all_at (λ (n : List ℕ). slice_cmp nat_cmp y.name n ≡ Less) (names_of rs) r.name sorted.0 (has_mapped (λ (q : Labelled). q.name) rs r there)) (up y (inl refl) is))
    by_case false is rest (inl same) = absurd (let never : differs roles r ≡ false = rw (← same) is in cc (never, d))
    by_case false is rest (inr there) = rest there

module _ (os : List (Key × Data)) (sorted : IsStrictlySortedBy key_cmp (keys_of os)) where
  abbrev roles : List Labelled
  roles = roles_in os

  pub stored_role : (r : Labelled) → Has roles r → role_at os r.name ≡ Some r
  stored_role r has =
      let from = mapped_of labelled_tree (filter (λ e. is_cluster_role e.0) os) r has in
      let entry = kept_of (λ (e : Key × Data). is_cluster_role e.0) os from.0 from.1.0 in
      subst (λ q. role_at os q.name ≡ Some q) from.1.1 (role_found os sorted from.0 entry.0 entry.1)

  lookup_has : (k : Key) (es : List (Key × Data)) (x : Data) → lookup (is_key k) es ≡ Some x → Has es (k, x)
  lookup_has k [] x h = absurd (cc h)
  lookup_has k (e ∷ es) x h = by_key (is_key k e.0) refl (lookup_has k es x) h
    where
      by_key : (b : Bool) → is_key k e.0 ≡ b → (lookup (is_key k) es ≡ Some x → Has es (k, x)) → cond b (Some e.1) (lookup (is_key k) es) ≡ Some x → Has (e ∷ es) (k, x)
      by_key true at rest found = let value : e.1 ≡ x = cc found in inl (λ i. (sym (key_is k e.0 at) i, value i))
      by_key false at rest found = inr (rest found)

  role_place : (name : List ℕ) → is_cluster_role (role_key name) ≡ true
  unfolding is_cluster_role
  role_place name = refl

  -- what stands at the place of a name is a role of that name
  pub named_role : (name : List ℕ) (r : Labelled) → role_at os name ≡ Some r → (r.name ≡ name) × Has roles r
  named_role name r found = by_tree (lookup (is_key (role_key name)) os) refl found
    where
      by_tree : (o : Option Data) → lookup (is_key (role_key name)) os ≡ o → option_map (labelled_at name) o ≡ Some r → (r.name ≡ name) × Has roles r
      by_tree None is h = absurd (cc h)
      by_tree (Some tree) is h =
          let same : labelled_at name tree ≡ r = cc h in
          let e : Key × Data = (role_key name, tree) in
          (ap (λ (q : Labelled). q.name) (sym same), subst (λ q. Has roles q) same (has_mapped labelled_tree (filter (λ e. is_cluster_role e.0) os) e (has_kept (λ (e : Key × Data). is_cluster_role e.0) os e (lookup_has (role_key name) os tree is) (role_place name))))

  Marked : List (List ℕ) → Type 0
  Marked ms = (r : Labelled) → Has roles r → differs roles r ≡ true → is_marked ms r.name ≡ true

  above_first : (n : List ℕ) (ms : List (List ℕ)) → AllByRecursion (λ m. slice_cmp nat_cmp n m ≡ Less) ms → (m : List ℕ) → is_marked (n ∷ ms) m ≡ true → is_le (slice_cmp nat_cmp n m) ≡ true
  above_first n ms all m h = by_case (is_eq (slice_cmp nat_cmp m n)) refl h
    where
      in_rest : (ks : List (List ℕ)) → AllByRecursion (λ k. slice_cmp nat_cmp n k ≡ Less) ks → is_marked ks m ≡ true → is_le (slice_cmp nat_cmp n m) ≡ true
      in_rest [] each k = absurd (cc k)
      in_rest (x ∷ ks) each k = by_name (is_eq (slice_cmp nat_cmp m x)) refl (in_rest ks each.1) k
        where
          by_name : (b : Bool) → is_eq (slice_cmp nat_cmp m x) ≡ b → (is_marked ks m ≡ true → is_le (slice_cmp nat_cmp n m) ≡ true) → (b || is_marked ks m) ≡ true → is_le (slice_cmp nat_cmp n m) ≡ true
          by_name true same rest g = rw (same_name m x same) (less_is (slice_cmp nat_cmp n x) each.0)
          by_name false same rest g = rest g

      by_case : (b : Bool) → is_eq (slice_cmp nat_cmp m n) ≡ b → (b || is_marked ms m) ≡ true → is_le (slice_cmp nat_cmp n m) ≡ true
      by_case true same g = rw (same_name m n same) (equal_is (slice_cmp nat_cmp n n) (compares n))
      by_case false same g = in_rest ms all g

  -- the first mark whose role differs is that of the next turn
  marked_next : (ms : List (List ℕ)) → IsStrictlySortedBy (slice_cmp nat_cmp) ms → Marked ms → IsInNameOrder roles → first_some (turn_of_name os) ms ≡ next roles
  unfolding IsStrictlySortedBy Marked
  marked_next [] up marked order = sym (none_next roles roles (λ r has d. let h : false ≡ true = marked r has d in cc h))
  marked_next (n ∷ ms) up marked order = by_role (role_at os n) refl (marked_next ms up.1)
    where
      -- without the first mark those that differ are marked still, if it is of none of them
      others : ((r : Labelled) → Has roles r → differs roles r ≡ true → r.name ≡ n → ⊥) → Marked ms
      others not_first r has d = by_name (is_eq (slice_cmp nat_cmp r.name n)) refl (marked r has d)
        where
          by_name : (b : Bool) → is_eq (slice_cmp nat_cmp r.name n) ≡ b → (b || is_marked ms r.name) ≡ true → is_marked ms r.name ≡ true
          by_name true same g = absurd (not_first r has d (same_name r.name n same))
          by_name false same g = g

      by_role : (o : Option Labelled) → role_at os n ≡ o → (Marked ms → IsInNameOrder roles → first_some (turn_of_name os) ms ≡ next roles)
          → option_or (option_and_then (turn_at roles) o) (first_some (turn_of_name os) ms) ≡ next roles
      by_role None none rest =
          rest (others (λ r has d at. let stored : role_at os n ≡ Some r = ap (role_at os) (sym at) ∙ stored_role r has in let never : None ≡ Some r = sym none ∙ stored in cc never)) order
      by_role (Some q) some rest = by_differs (differs roles q) refl
        where
          there : (q.name ≡ n) × Has roles q
          there = named_role n q some

          by_differs : (b : Bool) → differs roles q ≡ b → option_or (cond b (Some (turn_of roles q)) None) (first_some (turn_of_name os) ms) ≡ next roles
          by_differs true d = sym (least_next roles roles order q there.1 d (λ r has e. rw there.0 (above_first n ms up.0 r.name (marked r has e))))
          by_differs false same =
              rest (others (λ r has d at.
              let stored : role_at os n ≡ Some r = ap (role_at os) (sym at) ∙ stored_role r has in
              let one : q ≡ r = (let both : Some q ≡ Some r = sym some ∙ stored in cc both) in
              let never : differs roles r ≡ false = rw (← one) same in cc (never, d))) order

-- the turn that is found by the marks is the next one, if they cover the cluster roles
pub marks_next : (s : State) (t : Tracked) → IsStore s → IsStrictlySortedBy (slice_cmp nat_cmp) t.marks → Covers t (roles_in (plain_of s).objects)
    → first_some (turn_of_name (plain_of s).objects) t.marks ≡ next (roles_in (plain_of s).objects)
unfolding Marked
marks_next s t is up covers =
    let os = (plain_of s).objects in
    marked_next os (rw (keys_of_trees (objects s)) is.ordered) t.marks up
    (λ r has d. (all_at (IsCovered t (roles_in os)) (roles_in os) r covers has).1 d) (read_order s (roles_in os) is refl)
