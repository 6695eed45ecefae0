-- Each node has one number.
use Rattle.std.proofs.Common.{◌≡◌, ◌⊎◌, ◌↔◌, ◌++◌, ℕ, zero, suc, Bool, true, false, cond, List, [], ◌∷◌, length, Some, None, arith, ◌+◌, ⊎_elim, refl, sym, ap, subst, ◌∙◌, inl, inr}
use denote.Enum.Bare.{same_true}
use Rattle.std.specs.Cmp.{tied_itself}
use Rattle.std.specs.Ordering.{is_eq}
use Rattle.std.specs.BTreeMap.{BTreeMap, Updates, get, is_at}
use Rattle.std.specs.List.{slice_get}
use Rattle.std.proofs.lemmas.Bool.{and_parts}
use Rattle.std.proofs.lemmas.Option.{none-some, same_Some}
use Rattle.kapi_rules.proofs.Covers.{same}
use Rattle.kapi_paths.specs.Numbers.{AreNumbers, IsOnce, node_cmp}
use Rattle.kapi_paths.specs.contracts.node.NodeKind.{the_type}
use Rattle.kapi_paths.specs.contracts.node.NodeOrd.TheImpl.Laws as laws
use Rattle.kapi_paths.specs.declared.node.Node.{Node}
use Rattle.kapi_paths.proofs.Graphing.{at_end, has_found, kept_at}
use Rattle.kapi_paths.proofs.Grown.{has_push}
use Rattle.kapi_paths.specs.Graphs.{AreBefore}
use Rattle.kapi_paths.specs.declared.path.Path.{Path}

pub node_exact : (a b : Node) → is_at (node_cmp a) b ≡ true → a ≡ b
node_exact a b h =
    let kinds = and_parts _ _ (laws.matches_eq-law a b ∙ h) in
    let texts = and_parts _ _ kinds.1 in
    let kind = same_true the_type tt a.kind b.kind kinds.0 in
    λ i. record { kind = kind i; place = same a.place b.place texts.0 i; name = same a.name b.name texts.1 i }

pub numbers_once : (numbers : BTreeMap Node ℕ) (nodes : List Node) → AreNumbers numbers nodes → IsOnce nodes
numbers_once numbers nodes are i j x a b = same_Some i j (sym ((are x i).1 a) ∙ (are x j).1 b)

-- what is at a number of a list with one more
pushed_at : {X : Type 0} (xs : List X) (x y : X) (n : ℕ) → slice_get (xs ++ x ∷ []) n ≡ Some y → (slice_get xs n ≡ Some y) ⊎ ((length xs ≡ n) × (x ≡ y))
pushed_at [] x y zero h = inr (refl, same_Some x y h)
pushed_at [] x y (suc n) h = absurd (cc h)
pushed_at (a ∷ xs) x y zero h = inl h
pushed_at (a ∷ xs) x y (suc n) h = elim (pushed_at xs x y n h) as (λ _. (slice_get xs n ≡ Some y) ⊎ ((suc (length xs) ≡ suc n) × (x ≡ y))) [ inl e ↦ inl e | inr e ↦ inr (ap suc e.0, e.1) ]

-- a node that had no number gets the next one
pub numbers_pushed : (old new : BTreeMap Node ℕ) (nodes : List Node) (node : Node) → AreNumbers old nodes → get node_cmp old node ≡ None → Updates node_cmp old new node (Some (length nodes))
    → AreNumbers new (nodes ++ node ∷ [])
numbers_pushed old new nodes node are none updates x n = by_case (is_at (node_cmp node) x) refl
  where
    by_case : (b : Bool) → is_at (node_cmp node) x ≡ b → (get node_cmp new x ≡ Some n) ↔ (slice_get (nodes ++ node ∷ []) n ≡ Some x)
    by_case true is =
        let e : node ≡ x = node_exact node x is in
        let had : get node_cmp new x ≡ Some (length nodes) = updates.0 x ∙ ap (λ b. cond b (Some (length nodes)) (get node_cmp old x)) is in (
          λ h. subst (λ k. slice_get (nodes ++ node ∷ []) k ≡ Some x) (same_Some (length nodes) n (sym had ∙ h)) (at_end nodes node ∙ ap Some e),
          λ h. elim (pushed_at nodes node x n h) as (λ _. get node_cmp new x ≡ Some n) [
            | inl k ↦ absurd (none-some n (sym none ∙ (ap (get node_cmp old) e ∙ (are x n).1 k)))
            | inr k ↦ had ∙ ap Some k.0
          ],
        )
    by_case false is =
        let had : get node_cmp new x ≡ get node_cmp old x = updates.2 x is in (
          λ h. kept_at nodes (node ∷ []) n x ((are x n).0 (sym had ∙ h)),
          λ h. elim (pushed_at nodes node x n h) as (λ _. get node_cmp new x ≡ Some n) [
            | inl k ↦ had ∙ (are x n).1 k
            | inr k ↦ absurd (let both : false ≡ true = sym is ∙ (ap (is_at (node_cmp node)) (sym k.1) ∙ ap is_eq (tied_itself laws.total-law node)) in cc)
          ],
        )

-- ---- paths in the order of their numbers

pub before_more : (nodes : List Node) (from to : ℕ) (list : List Path) → AreBefore nodes from to list → AreBefore nodes from (to + 1) list
before_more nodes from to list b = record {
  apart = b.apart;
  before = λ p i j h at_i at_j. ⊎_elim (λ less. inl less) (λ same. let less = same.1 in inr (same.0, omega (arith, less))) (b.before p i j h at_i at_j);
}

pub before_next : (nodes : List Node) (from to : ℕ) (list : List Path) → AreBefore nodes from to list → AreBefore nodes (from + 1) 0 list
before_next nodes from to list b = record {
  apart = b.apart;
  before = λ p i j h at_i at_j. inl (⊎_elim (λ less. omega (arith, less)) (λ same. let is = same.0 in omega (arith, is)) (b.before p i j h at_i at_j));
}

pub before_none : (nodes : List Node) (from to : ℕ) → AreBefore nodes from to []
before_none nodes from to = record { apart = λ i j p q at_i at_j. absurd (cc at_i); before = λ p i j h. absurd h }

pub before_push : (nodes : List Node) (from to : ℕ) (list : List Path) (p : Path) → IsOnce nodes → AreBefore nodes from to list
    → slice_get nodes from ≡ Some p.from → slice_get nodes to ≡ Some p.to → AreBefore nodes from (to + 1) (list ++ p ∷ [])
before_push nodes from to list p once b at_from at_to = record {
  apart = λ i j q r at_i at_j froms tos. ⊎_elim
      (λ old. ⊎_elim (λ k. b.apart i j q r old k froms tos) (λ k. absurd (new i q old (froms ∙ ap (λ (x : Path). x.from) (sym k.1)) (tos ∙ ap (λ (x : Path). x.to) (sym k.1)))) (pushed_at list p r j at_j))
      (λ own. ⊎_elim
      (λ k. absurd (new j r k (sym froms ∙ ap (λ (x : Path). x.from) (sym own.1)) (sym tos ∙ ap (λ (x : Path). x.to) (sym own.1))))
      (λ k. sym own.0 ∙ k.0) (pushed_at list p r j at_j))
      (pushed_at list p q i at_i);
  before = λ q i j h at_i at_j. ⊎_elim
      (λ k. (before_more nodes from to list b).before q i j k at_i at_j)
      (λ e.
      let first : i ≡ from = once i from p.from (at_i ∙ ap (λ (x : Path). Some x.from) (sym e)) at_from in
      let second : j ≡ to = once j to p.to (at_j ∙ ap (λ (x : Path). Some x.to) (sym e)) at_to in
      inr (first, omega (arith, second)))
      (has_push list p q h);
}
  where
    -- none that was there has the ends
    new : (i : ℕ) (q : Path) → slice_get list i ≡ Some q → q.from ≡ p.from → q.to ≡ p.to → ⊥
    new i q at froms tos = ⊎_elim (λ less. omega (arith, less)) (λ same. let less = same.1 in omega (arith, less))
        (b.before q from to (has_found list i q at) (at_from ∙ ap Some (sym froms)) (at_to ∙ ap Some (sym tos)))
