-- The numbers of nodes, and what a graph of numbers says of the nodes.
use Rattle.std.proofs.Common.{◌≡◌, ◌≤◌, ◌<◌, ◌++◌, ℕ, true, suc, zero, List, [], ◌∷◌, length, get_or, Some, refl, sym, ap, subst, ◌∙◌, inl, inr, ⊎_elim, arith, append_assoc}
use Rattle.std.specs.List.{slice_get}
use Rattle.std.proofs.lemmas.List.{get_or_append_left, get_or_past, get_or_push, length-append, length_push}
use Rattle.std.proofs.lemmas.Option.{same_Some, slice_get_within}
use Rattle.std.proofs.lemmas.Bool.{cases_lt}
use Rattle.kapi_paths.specs.Chains.{Has, IsChain, IsInside, row}
use Rattle.kapi_paths.specs.Graphs.{AddsPaths, AreAt, Begins, HasPath, IsCovered, IsGraph, IsPath, IsSomewhere, IsThere, IsWalk, is_listed, next_of}
use Rattle.kapi_paths.specs.Numbers.{IsOnce}
use Rattle.kapi_paths.proofs.Grown.{has_left, has_push}
use Rattle.kapi_paths.specs.Rights.{Row}
use Rattle.kapi_paths.specs.Steps.{everything, next}
use Rattle.kapi_paths.specs.declared.steps.Known.{Known}
use Rattle.kapi_policy.specs.Decided.{Binding}
use Rattle.kapi_policy.specs.Objects.{PolicyObjects}
use Rattle.kapi_paths.specs.declared.node.Node.{Node}
use Rattle.kapi_paths.specs.declared.path.Path.{Path}

-- ---- places

pub kept_at : {X : Type 0} (xs ys : List X) (n : ℕ) (x : X) → slice_get xs n ≡ Some x → slice_get (xs ++ ys) n ≡ Some x
kept_at [] ys n x e = cc
kept_at (a ∷ xs) ys zero x e = e
kept_at (a ∷ xs) ys (suc n) x e = kept_at xs ys n x e

pub at_end : {X : Type 0} (xs : List X) (x : X) → slice_get (xs ++ x ∷ []) (length xs) ≡ Some x
at_end [] x = refl
at_end (a ∷ xs) x = at_end xs x

pub begins_then : (xs ys zs : List Node) → Begins xs ys → Begins ys zs → Begins xs zs
begins_then xs ys zs (more, e) (rest, f) = (more ++ rest, f ∙ (ap (λ l. l ++ rest) e ∙ append_assoc xs more rest))

pub begins_at : (xs ys : List Node) → Begins xs ys → (n : ℕ) (x : Node) → slice_get xs n ≡ Some x → slice_get ys n ≡ Some x
begins_at xs ys (more, e) n x h = subst (λ (l : List Node). slice_get l n ≡ Some x) (sym e) (kept_at xs more n x h)

pub are_kept : (xs ys : List Node) → Begins xs ys → (ns : List ℕ) (zs : List Node) → AreAt xs ns zs → AreAt ys ns zs
are_kept xs ys b [] [] h = h
are_kept xs ys b [] (z ∷ zs) h = h
are_kept xs ys b (n ∷ ns) [] h = h
are_kept xs ys b (n ∷ ns) (z ∷ zs) h = (begins_at xs ys b n z h.0, are_kept xs ys b ns zs h.1)

pub are_pushed : (nodes : List Node) (ns : List ℕ) (zs : List Node) (n : ℕ) (z : Node) → AreAt nodes ns zs → slice_get nodes n ≡ Some z → AreAt nodes (ns ++ n ∷ []) (zs ++ z ∷ [])
are_pushed nodes [] [] n z h e = (e, tt)
are_pushed nodes [] (y ∷ zs) n z h e = absurd h
are_pushed nodes (m ∷ ns) [] n z h e = absurd h
are_pushed nodes (m ∷ ns) (y ∷ zs) n z h e = (h.0, are_pushed nodes ns zs n z h.1 e)

pub are_length : (nodes : List Node) (ns : List ℕ) (zs : List Node) → AreAt nodes ns zs → length ns ≡ length zs
are_length nodes [] [] h = refl
are_length nodes [] (z ∷ zs) h = absurd h
are_length nodes (n ∷ ns) [] h = absurd h
are_length nodes (n ∷ ns) (z ∷ zs) h = ap suc (are_length nodes ns zs h.1)

-- a number of a row has its node among those of the row
pub has_node : (nodes : List Node) (ns : List ℕ) (zs : List Node) (n : ℕ) → AreAt nodes ns zs → Has ns n → (z : Node) × (slice_get nodes n ≡ Some z) × Has zs z
has_node nodes [] zs n h k = absurd k
has_node nodes (m ∷ ns) [] n h k = absurd h
has_node nodes (m ∷ ns) (y ∷ zs) n h (inl e) = (y, subst (λ i. slice_get nodes i ≡ Some y) e h.0, inl refl)
has_node nodes (m ∷ ns) (y ∷ zs) n h (inr k) = let p = has_node nodes ns zs n h.1 k in (p.0, p.1, inr p.2)

pub begins_length : (xs ys : List Node) → Begins xs ys → length xs ≤ length ys
begins_length xs ys (more, e) = let l = ap length e ∙ length-append xs more in omega (arith, l)

-- ---- graphs

no_row : (rows : List (List ℕ)) (n m : ℕ) → length rows ≤ n → Has (row rows n) m → ⊥
no_row rows n m past h = subst (λ (ns : List ℕ). Has ns m) (get_or_past rows n [] past) h

-- a node that is within has an item
pub some_at : {X : Type 0} (xs : List X) (n : ℕ) → n < length xs → (x : X) × (slice_get xs n ≡ Some x)
some_at [] n h = absurd (omega arith)
some_at (a ∷ xs) zero h = (a, refl)
some_at (a ∷ xs) (suc n) h = some_at xs n (omega arith)

pub graph_inside : (step : Node → List Node) (nodes : List Node) (rows : List (List ℕ)) → IsGraph step nodes rows → IsInside rows
graph_inside step nodes rows a n m h = ⊎_elim
    (λ below.
    let size = a.size in
    let x = some_at nodes n (omega (arith, below, size)) in
    let p = has_node nodes (row rows n) (step x.0) m (a.next n x.0 x.1) h in
    let w = slice_get_within nodes m p.0 p.1 in
    omega (arith, w, size))
    (λ past. absurd (no_row rows n m past h)) (cases_lt n (length rows))

-- the nodes of a chain of numbers are a walk
pub chain_walks : (step : Node → List Node) (nodes : List Node) (rows : List (List ℕ)) → IsGraph step nodes rows
    → (ns : List ℕ) (zs : List Node) (i j : ℕ) (x y : Node) → slice_get nodes i ≡ Some x → slice_get nodes j ≡ Some y → AreAt nodes ns zs → IsChain rows i ns j → IsWalk step x zs y
chain_walks step nodes rows a [] [] i j x y from to h e = same_Some x y (sym from ∙ (ap (slice_get nodes) e ∙ to))
chain_walks step nodes rows a [] (z ∷ zs) i j x y from to h e = absurd h
chain_walks step nodes rows a (n ∷ ns) [] i j x y from to h e = absurd h
chain_walks step nodes rows a (n ∷ ns) (z ∷ zs) i j x y from to h (leads, rest) =
    let p = has_node nodes (row rows i) (step x) n (a.next i x from) leads in
    (subst (λ w. Has (step x) w) (same_Some p.0 z (sym p.1 ∙ h.0)) p.2, chain_walks step nodes rows a ns zs n j z y h.0 to h.1 rest)

-- the numbers of a chain are within
pub chain_inside : (rows : List (List ℕ)) → IsInside rows → (ns : List ℕ) (i j : ℕ) → IsChain rows i ns j → (n : ℕ) → Has ns n → n < length rows
chain_inside rows inside [] i j c n h = absurd h
chain_inside rows inside (m ∷ ns) i j (leads, rest) n (inl e) = subst (λ k. k < length rows) e (inside i m leads)
chain_inside rows inside (m ∷ ns) i j (leads, rest) n (inr h) = chain_inside rows inside ns m j rest n h

-- ---- loops

-- one more row
pub row_added : (step : Node → List Node) (old new : List Node) (rows : List (List ℕ)) (r : List ℕ) (x : Node) → Begins old new
    → ((n : ℕ) (z : Node) → n < length rows → slice_get old n ≡ Some z → AreAt old (row rows n) (step z))
    → length rows ≤ length old → slice_get old (length rows) ≡ Some x → AreAt new r (step x)
    → (n : ℕ) (z : Node) → n < length (rows ++ r ∷ []) → slice_get new n ≡ Some z → AreAt new (row (rows ++ r ∷ []) n) (step z)
row_added step old new rows r x b done size here added n z within e = ⊎_elim
    (λ below.
    let p = some_at old n (omega (arith, below, size)) in
    let same : p.0 ≡ z = same_Some p.0 z (sym (begins_at old new b n p.0 p.1) ∙ e) in
    let q = are_kept old new b (row rows n) (step p.0) (done n p.0 below p.1) in
    subst (λ (ns : List ℕ). AreAt new ns (step z)) (sym (get_or_append_left rows (r ∷ []) [] n below)) (subst (λ (w : Node). AreAt new (row rows n) (step w)) same q))
    (λ past.
    let is : n ≡ length rows = (let more = length_push rows r in omega (arith, past, within, more)) in
    let same : x ≡ z = same_Some x z (sym (begins_at old new b (length rows) x here) ∙ subst (λ k. slice_get new k ≡ Some z) is e) in
    subst (λ (ns : List ℕ). AreAt new ns (step z)) (sym (get_or_push rows r [] n (sym is))) (subst (λ (w : Node). AreAt new r (step w)) same added))
    (cases_lt n (length rows))

-- all rows
pub rows_done : (step : Node → List Node) (nodes : List Node) (rows : List (List ℕ)) → ((n : ℕ) (z : Node) → n < length rows → slice_get nodes n ≡ Some z → AreAt nodes (row rows n) (step z))
    → length rows ≤ length nodes → length nodes ≤ length rows → IsOnce nodes → IsGraph step nodes rows
rows_done step nodes rows done some all once = record {
  size = omega arith;
  once = once;
  next = λ n x e. let w = slice_get_within nodes n x e in done n x (omega (arith, w, all)) e;
}

pub has_at : {X : Type 0} (xs : List X) (n : ℕ) (d : X) → n < length xs → Has xs (get_or xs n d)
has_at [] n d h = absurd (omega arith)
has_at (a ∷ xs) zero d h = inl refl
has_at (a ∷ xs) (suc n) d h = inr (has_at xs n d (omega arith))

pub has_found : {X : Type 0} (xs : List X) (n : ℕ) (x : X) → slice_get xs n ≡ Some x → Has xs x
has_found [] n x e = absurd (cc e)
has_found (a ∷ xs) zero x e = inl (same_Some a x e)
has_found (a ∷ xs) (suc n) x e = inr (has_found xs n x e)

-- ---- walks are chains

-- a node of the list has a number of the row
pub has_number : (nodes : List Node) (ns : List ℕ) (zs : List Node) (z : Node) → AreAt nodes ns zs → Has zs z → (n : ℕ) × Has ns n × (slice_get nodes n ≡ Some z)
has_number nodes [] [] z h k = absurd k
has_number nodes [] (y ∷ zs) z h k = absurd h
has_number nodes (m ∷ ns) [] z h k = absurd h
has_number nodes (m ∷ ns) (y ∷ zs) z h (inl e) = (m, inl refl, subst (λ w. slice_get nodes m ≡ Some w) e h.0)
has_number nodes (m ∷ ns) (y ∷ zs) z h (inr k) = let p = has_number nodes ns zs z h.1 k in (p.0, inr p.1, p.2)

-- a walk is a chain of as many numbers
pub walk_chains : (step : Node → List Node) (nodes : List Node) (rows : List (List ℕ)) → IsGraph step nodes rows → (zs : List Node) (i : ℕ) (x y : Node)
    → slice_get nodes i ≡ Some x → IsWalk step x zs y → (j : ℕ) × (slice_get nodes j ≡ Some y) × (ns : List ℕ) × IsChain rows i ns j × (length ns ≡ length zs)
walk_chains step nodes rows a [] i x y from w = (i, subst (λ z. slice_get nodes i ≡ Some z) w from, [], refl, refl)
walk_chains step nodes rows a (z ∷ zs) i x y from (leads, rest) =
    let p = has_number nodes (row rows i) (step x) z (a.next i x from) leads in
    let q = walk_chains step nodes rows a zs p.0 z y p.2 rest in
    (q.0, q.1, p.0 ∷ q.2, (p.1, q.3), ap suc q.4)

-- ---- lists of paths

pub adds_then : (nodes : List Node) (rows : List (List ℕ)) (from : ℕ) (a b c : List Path) → AddsPaths nodes rows from a b → AddsPaths nodes rows from b c → AddsPaths nodes rows from a c
adds_then nodes rows from a b c x y = record {
  kept = λ p h. y.kept p (x.kept p h);
  came = λ p h. ⊎_elim (λ k. x.came p k) (λ k. inr k) (y.came p h);
}

pub adds_one : (nodes : List Node) (rows : List (List ℕ)) (from : ℕ) (a : List Path) (path : Path) → IsSomewhere nodes rows from path → AddsPaths nodes rows from a (a ++ path ∷ [])
adds_one nodes rows from a path s = record {
  kept = λ p h. has_left a (path ∷ []) p h;
  came = λ p h. ⊎_elim (λ k. inl k) (λ e. inr (subst (λ q. IsSomewhere nodes rows from q) e s)) (has_push a path p h);
}

there_kept : (nodes : List Node) (a b : List Path) → ((p : Path) → Has a p → Has b p) → (i j : ℕ) → IsThere nodes a i j → IsThere nodes b i j
there_kept nodes a b kept i j t = record { path = t.path; there = kept t.path t.there; at_from = t.at_from; at_to = t.at_to }

pub covered_kept : (nodes : List Node) (rows : List (List ℕ)) (a b : List Path) → ((p : Path) → Has a p → Has b p) → (i j : ℕ) → IsCovered nodes rows a i j → IsCovered nodes rows b i j
covered_kept nodes rows a b kept i j h = λ path z chain at listed other.
    ⊎_elim (λ t. inl (there_kept nodes a b kept i j t)) (λ t. inr (there_kept nodes a b kept i 0 t)) (h path z chain at listed other)

module _ (step : Node → List Node) (nodes : List Node) (rows : List (List ℕ)) (a : IsGraph step nodes rows) (first : slice_get nodes 0 ≡ Some everything) where
  -- what is listed of numbers is listed of their nodes
  pub covered_has : (list : List Path) (i : ℕ) → ((j : ℕ) → IsCovered nodes rows list i j) → (from to : Node) (zs : List Node) → slice_get nodes i ≡ Some from → IsWalk step from zs to
      → is_listed to.kind ≡ true → (from ≡ to → ⊥) → HasPath list from to
  covered_has list i covered from to zs at walk listed other =
      let q = walk_chains step nodes rows a zs i from to at walk in
      let apart : i ≡ q.0 → ⊥ = λ e. other (same_Some from to (sym at ∙ (ap (slice_get nodes) e ∙ q.1))) in
      ⊎_elim
      (λ (t : IsThere nodes list i q.0).
      record { path = t.path; there = t.there; from_is = same_Some t.path.from from (sym t.at_from ∙ at); to_is = inl (same_Some t.path.to to (sym t.at_to ∙ q.1)) })
      (λ (t : IsThere nodes list i 0).
      record { path = t.path; there = t.there; from_is = same_Some t.path.from from (sym t.at_from ∙ at); to_is = inr (same_Some t.path.to everything (sym t.at_to ∙ first)) })
      (covered q.0 q.2 to q.3 q.1 listed apart)

  -- the path between numbers is one between their nodes
  pub somewhere_is : (sources : List Node) (i : ℕ) (p : Path) → IsSomewhere nodes rows i p → Has sources p.from → IsPath step sources p
  somewhere_is sources i p s source =
      let d = s.drawn in
      record {
        source = source;
        listed = s.listed;
        other = λ e. s.other (a.once i s.to p.from d.at_from (subst (λ x. slice_get nodes s.to ≡ Some x) (sym e) d.at_to));
        walk = chain_walks step nodes rows a d.numbers p.nodes i s.to p.from p.to d.at_from d.at_to d.at_path d.chain;
        shortest = λ zs walk.
            let q = walk_chains step nodes rows a zs i p.from p.to d.at_from walk in
            let fewer = d.shortest q.2 (subst (λ j. IsChain rows i q.2 j) (a.once q.0 s.to p.to q.1 d.at_to) q.3) in
            let drawn = are_length nodes d.numbers p.nodes d.at_path in
            let walked = q.4 in
            omega (arith, fewer, drawn, walked);
        alone = λ zs walk.
            let q = walk_chains step nodes rows a zs i p.from everything d.at_from walk in
            let zero = s.alone q.2 (subst (λ j. IsChain rows i q.2 j) (a.once q.0 0 everything q.1 first) q.3) in
            same_Some p.to everything (sym d.at_to ∙ (ap (slice_get nodes) zero ∙ first));
      }

-- a walk from everything leads nowhere
pub stays : (step : Node → List Node) → step everything ≡ [] → (from to : Node) (zs : List Node) → from ≡ everything → IsWalk step from zs to → from ≡ to
stays step none from to [] e w = w
stays step none from to (z ∷ zs) e (leads, rest) = absurd (subst (λ (l : List Node). Has l z) (ap step e ∙ none) leads)

pub leads_nowhere : (objects : PolicyObjects) (bindings : List Binding) (known : Known) (rights : List Row) → next_of objects bindings known rights everything ≡ []
unfolding next
leads_nowhere objects bindings known rights = refl
