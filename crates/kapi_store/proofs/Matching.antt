-- A selector's form matches the labels that the selector matches.
use Rattle.std.proofs.Common.{◌≡◌, ◌∙◌, ℕ, Bool, true, false, not, cond, ◌&&◌, ◌||◌, List, [], ◌∷◌, map, Option, Some, None, is_some, refl, sym, ap, bytes_eq}
use Rattle.std.proofs.Math.Bool.{and_comm, and-true}
use Rattle.std.proofs.lemmas.List.Folds.{list_all-map}
use Rattle.std.proofs.lemmas.Map.Text.{is_eq-slice_cmp}
use Rattle.std.proofs.lemmas.Slice.Eq.{bytes_eq-Decides}
use Rattle.std.specs.BTreeMap.{BTreeMap, get, is_at}
use Rattle.std.specs.BTreeSet.{insert_key}
use Rattle.std.specs.Bool.{one_answer}
use Rattle.std.specs.Cmp.Lexicographic.{slice_cmp}
use Rattle.std.specs.List.{list_all}
use Rattle.std.specs.Option.{option_map_or, unwrap_or}
use Rattle.std.specs.Ordering.{match_ordering, nat_cmp, is_eq}
use Rattle.std.specs.declared.cmp.Ordering.TheVariants.{Less, Equal, Greater}
use Rattle.kapi_model.specs.Selector.{holds, is_text, value_in}
use Rattle.kapi_model.specs.declared.selector.Label.{Label}
use Rattle.kapi_model.specs.declared.selector.Operator.{Operator}
use Rattle.kapi_model.specs.declared.selector.Operator.TheVariants.{In, NotIn, Exists, DoesNotExist}
use Rattle.kapi_model.specs.declared.selector.Requirement.{Requirement}
use Rattle.kapi_model.specs.declared.selector.Selector.{Selector}
use Rattle.kapi_store.specs.declared.matcher.Checks.{Checks}
use Rattle.kapi_store.specs.declared.matcher.Matcher.{Matcher}
use Rattle.kapi_store.specs.Matching.{AreDistinct, Meets}
use Rattle.kapi_store.specs.Private.Matching.{are_there, is_there, lets, passes, passes_at, presence_of}

and_assoc : (a b c : Bool) → ((a && b) && c) ≡ (a && (b && c))
and_assoc true b c = refl
and_assoc false b c = refl

-- ---- what is noted

pushed : (b p others : Bool) (old : Option Bool) → unwrap_or (cond b (Some p) old) others ≡ cond b p (unwrap_or old others)
pushed true p others old = refl
pushed false p others old = refl

pub noted : (k v : List ℕ) (p others : Bool) (old new : Option Bool) → new ≡ cond (is_at (slice_cmp nat_cmp k) v) (Some p) old
    → unwrap_or new others ≡ cond (bytes_eq k v) p (unwrap_or old others)
noted k v p others old new is =
    ap (λ o. unwrap_or o others) (is ∙ ap (λ b. cond b (Some p) old) (is_eq-slice_cmp k v)) ∙ pushed (bytes_eq k v) p others old

pub only_more : (e x s p old new : Bool) → (e ≡ true → p ≡ s) → old ≡ (x && s) → new ≡ cond e p old → new ≡ ((x || e) && s)
only_more true true s p old new same was is = is ∙ same refl
only_more true false s p old new same was is = is ∙ same refl
only_more false true s p old new same was is = is ∙ was
only_more false false s p old new same was is = is ∙ was

pub without_more : (e x s old new : Bool) → old ≡ (not x && s) → new ≡ cond e false old → new ≡ (not (x || e) && s)
without_more true true s old new was is = is
without_more true false s old new was is = is
without_more false true s old new was is = is ∙ was
without_more false false s old new was is = is ∙ was

-- ---- the checks of a key

abbrev pub checked : Option Checks → List ℕ → Bool
checked found v = option_map_or (λ c. passes c v) found true

narrowed_if : (b h here : Bool) (old mid new : Option Checks) (n : Checks) (v : List ℕ) → mid ≡ cond b None old → new ≡ cond b (Some n) mid
    → passes n v ≡ (h && here) → (b ≡ true → here ≡ checked old v) → checked new v ≡ (checked old v && (not b || h))
narrowed_if true h here old mid new n v gone is all same = ap (λ o. checked o v) is ∙ all ∙ and_comm h here ∙ ap (λ b. b && h) (same refl)
narrowed_if false h here old mid new n v gone is all same = ap (λ o. checked o v) (is ∙ gone) ∙ sym (and-true (checked old v))

pub narrowed_at : (r : Requirement) (old mid new : BTreeMap (List ℕ) Checks) (n : Checks) (q v : List ℕ)
    → get (slice_cmp nat_cmp) mid q ≡ cond (is_at (slice_cmp nat_cmp r.key) q) None (get (slice_cmp nat_cmp) old q)
    → get (slice_cmp nat_cmp) new q ≡ cond (is_at (slice_cmp nat_cmp r.key) q) (Some n) (get (slice_cmp nat_cmp) mid q)
    → passes n v ≡ (holds r.operator r.values (Some v) && passes_at old r.key v) → passes_at new q v ≡ (passes_at old q v && lets r q v)
narrowed_at r old mid new n q v gone is all =
    let at : BTreeMap (List ℕ) Checks → Option Checks = λ m. get (slice_cmp nat_cmp) m q in
    narrowed_if (bytes_eq r.key q) (holds r.operator r.values (Some v)) (passes_at old r.key v) (at old) (at mid) (at new) n v
    (gone ∙ ap (λ b. cond b None (at old)) (is_eq-slice_cmp r.key q)) (is ∙ ap (λ b. cond b (Some n) (at mid)) (is_eq-slice_cmp r.key q)) all
    (λ yes. ap (λ k. passes_at old k v) ((bytes_eq-Decides r.key q).0 yes))

-- ---- the keys that are needed

absorbed : (a b : Bool) → (a && b) ≡ ((a && b) && a)
absorbed true b = sym (and-true b)
absorbed false b = refl

insert_all : (p : List ℕ → Bool) (ks : List (List ℕ)) (k : List ℕ) → list_all p (insert_key (slice_cmp nat_cmp) ks k) ≡ (list_all p ks && p k)
insert_all p [] k = and-true (p k)
insert_all p (x ∷ xs) k =
    elim (slice_cmp nat_cmp k x) as (λ o. slice_cmp nat_cmp k x ≡ o
    → list_all p (match_ordering o (k ∷ x ∷ xs) (x ∷ xs) (x ∷ insert_key (slice_cmp nat_cmp) xs k)) ≡ ((p x && list_all p xs) && p k)) [
      | Less ↦ λ is. and_comm (p k) (p x && list_all p xs)
      | Equal ↦ λ is.
          let same : k ≡ x = (bytes_eq-Decides k x).0 (sym (is_eq-slice_cmp k x) ∙ ap is_eq is) in
          absorbed (p x) (list_all p xs) ∙ ap (λ y. (p x && list_all p xs) && p y) (sym same)
      | Greater ↦ λ is. ap (λ b. p x && b) (insert_all p xs k) ∙ sym (and_assoc (p x) (list_all p xs) (p k))
    ] refl

there_if : (a b : Bool) → not a ≡ true → (a || b) ≡ b
there_if true b is = absurd (cc is)
there_if false b is = refl

pub needed_more : (at : List ℕ → Option (List ℕ)) (ks new : List (List ℕ)) (r : Requirement) → not (holds r.operator [] None) ≡ true
    → new ≡ insert_key (slice_cmp nat_cmp) ks r.key → are_there at new ≡ (are_there at ks && is_there r (at r.key))
needed_more at ks new r needs is =
    ap (are_there at) is ∙ insert_all (λ k. is_some (at k)) ks r.key
    ∙ ap (λ b. are_there at ks && b) (sym (there_if (holds r.operator [] None) (is_some (at r.key)) needs))

-- ---- labels that have what is needed, and pass

turned_eq : (a b : List ℕ) → bytes_eq a b ≡ bytes_eq b a
turned_eq a b =
    one_answer (bytes_eq a b) (bytes_eq b a) (bytes_eq-Decides a b) (λ yes. sym ((bytes_eq-Decides b a).0 yes), λ same. (bytes_eq-Decides b a).1 (sym same))

-- of distinct labels one has the key, or none
one_passes : (f : List ℕ → Bool) (k : List ℕ) (ls : List Label) → AreDistinct ls
    → list_all (λ l. not (bytes_eq k l.key) || f l.value) ls ≡ option_map_or f (value_in ls k) true
one_passes f k [] distinct = refl
one_passes f k (l ∷ ls) distinct =
    let rest : list_all (λ m. not (bytes_eq k m.key) || f m.value) ls ≡ option_map_or f (value_in ls k) true = one_passes f k ls distinct.1 in
    rw (turned_eq k l.key)
    (elim (bytes_eq l.key k) as (λ b. bytes_eq l.key k ≡ b
    → ((not b || f l.value) && list_all (λ m. not (bytes_eq k m.key) || f m.value) ls) ≡ option_map_or f (cond b (Some l.value) (value_in ls k)) true) [
      | true ↦ λ is.
          let none : value_in ls k ≡ None = ap (value_in ls) (sym ((bytes_eq-Decides l.key k).0 is)) ∙ distinct.0 in
          ap (λ b. f l.value && b) (rest ∙ ap (λ o. option_map_or f o true) none) ∙ and-true (f l.value)
      | false ↦ λ is. rest
    ] refl)

there_passes : (o : Operator) (vs : List (List ℕ)) (found : Option (List ℕ))
    → ((holds o [] None || is_some found) && option_map_or (λ v. holds o vs (Some v)) found true) ≡ holds o vs found
there_passes In vs None = refl
there_passes In vs (Some v) = refl
there_passes NotIn vs None = refl
there_passes NotIn vs (Some v) = refl
there_passes Exists vs None = refl
there_passes Exists vs (Some v) = refl
there_passes DoesNotExist vs None = refl
there_passes DoesNotExist vs (Some v) = refl

all_true : (ls : List Label) → list_all (λ l. true) ls ≡ true
all_true [] = refl
all_true (l ∷ ls) = all_true ls

crossed : (a b c d : Bool) → ((a && b) && (c && d)) ≡ ((a && c) && (b && d))
crossed true true c d = refl
crossed true false true d = refl
crossed true false false d = refl
crossed false b c d = refl

all_both : (f g : Label → Bool) (ls : List Label) → list_all (λ l. f l && g l) ls ≡ (list_all f ls && list_all g ls)
all_both f g [] = refl
all_both f g (l ∷ ls) = ap (λ b. (f l && g l) && b) (all_both f g ls) ∙ crossed (f l) (g l) (list_all f ls) (list_all g ls)

all_met : (ls : List Label) → AreDistinct ls → (rs : List Requirement)
    → (list_all (λ r. is_there r (value_in ls r.key)) rs && list_all (λ l. list_all (λ r. lets r l.key l.value) rs) ls)
    ≡ list_all (λ r. holds r.operator r.values (value_in ls r.key)) rs
all_met ls distinct [] = all_true ls
all_met ls distinct (r ∷ rs) =
    let others : Label → Bool = λ l. list_all (λ s. lets s l.key l.value) rs in
    let there : Bool = is_there r (value_in ls r.key) in
    let all_there : Bool = list_all (λ s. is_there s (value_in ls s.key)) rs in
    let one : list_all (λ l. lets r l.key l.value) ls ≡ option_map_or (λ v. holds r.operator r.values (Some v)) (value_in ls r.key) true
    = one_passes (λ v. holds r.operator r.values (Some v)) r.key ls distinct in
    ap (λ b. (there && all_there) && b) (all_both (λ l. lets r l.key l.value) others ls)
    ∙ crossed there all_there (list_all (λ l. lets r l.key l.value) ls) (list_all others ls)
    ∙ ap (λ b. (there && b) && (all_there && list_all others ls)) one
    ∙ ap (λ b. b && (all_there && list_all others ls)) (there_passes r.operator r.values (value_in ls r.key))
    ∙ ap (λ b. holds r.operator r.values (value_in ls r.key) && b) (all_met ls distinct rs)

pub made : (m : Matcher) (s : Selector) (ks : List (List ℕ)) → m.needed.match_labels ≡ s.match_labels → m.needed.match_expressions ≡ map presence_of ks
    → ((at : List ℕ → Option (List ℕ)) → are_there at ks ≡ list_all (λ r. is_there r (at r.key)) s.match_expressions)
    → ((k v : List ℕ) → passes_at m.keys k v ≡ list_all (λ r. lets r k v) s.match_expressions) → Meets m s
made m s ks labels presence there keys ls distinct =
    let at : List ℕ → Option (List ℕ) = value_in ls in
    let has : List Label → Bool = list_all (λ l. is_text (at l.key) l.value) in
    let meet : List Requirement → Bool = list_all (λ r. holds r.operator r.values (at r.key)) in
    let pass : Bool = list_all (λ l. passes_at m.keys l.key l.value) ls in
    let all_there : Bool = list_all (λ r. is_there r (at r.key)) s.match_expressions in
    let needed : meet m.needed.match_expressions ≡ all_there
    = ap meet presence ∙ list_all-map (λ r. holds r.operator r.values (at r.key)) presence_of ks ∙ there at in
    ap (λ w. (has w && meet m.needed.match_expressions) && pass) labels ∙ ap (λ b. (has s.match_labels && b) && pass) needed
    ∙ (λ i. (has s.match_labels && all_there) && list_all (λ l. keys l.key l.value i) ls)
    ∙ and_assoc (has s.match_labels) all_there (list_all (λ l. list_all (λ r. lets r l.key l.value) s.match_expressions) ls)
    ∙ ap (λ b. has s.match_labels && b) (all_met ls distinct s.match_expressions)
