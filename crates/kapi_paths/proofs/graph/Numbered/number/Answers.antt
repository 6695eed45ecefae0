use Rattle.std.proofs.Common.{arith, ◌≡◌, ◌++◌, ℕ, List, [], ◌∷◌, length, Some, ap, inl, inr, subst, sym, ◌∙◌, ⊎_elim}
use Rattle.std.specs.BTreeMap.{Updates}
use Rattle.kapi_paths.specs.Chains.{Has}
use Rattle.kapi_paths.specs.Numbers.{node_cmp}
use Rattle.kapi_paths.specs.declared.node.Node.{Node}
use Rattle.kapi_paths.proofs.Graphing.{at_end}
use Rattle.kapi_paths.proofs.Grown.{has_push}
use Rattle.kapi_paths.proofs.Numbering.{numbers_pushed}
use Rattle.kapi_paths.proofs.graph.Numbered.number.Goals as goal

pub invariant_of-self-2 : goal.invariant_of-self-2
invariant_of-self-2 c =
    let nodes = c.self.inside.nodes.items in
    let old = c.self.inside.numbers in
    let new = c.insert.new.self in
    let items : c.push_reserved.new.self.items ≡ nodes ++ c.args.node ∷ [] = c.push_reserved.ensures.items ∙ ap (λ l. l ++ c.args.node ∷ []) c.in_ok-reserve.ensures.items in
    let counted : c.len-number.result ≡ length nodes = (let number = c.len-number.ensures in let ok = c.self.inside.nodes.ok in omega (arith, number, ok)) in
    let updates : Updates node_cmp old new c.args.node (Some (length nodes)) = subst (λ (n : ℕ). Updates node_cmp old new c.args.node (Some n)) counted
    (subst (λ (k : Node). Updates node_cmp old new k (Some c.len-number.result)) c.in_ok-copy.ensures c.in_ok-insert.ensures.updates) in
    rw items (numbers_pushed old new nodes c.args.node c.self.invariant (sym c.in_default.ensures.value) updates)

pub returns-clause-at : goal.returns-clause-at
returns-clause-at c =
    let nodes = c.self.inside.nodes.items in
    let items : c.push_reserved.new.self.items ≡ nodes ++ c.args.node ∷ [] = c.push_reserved.ensures.items ∙ ap (λ l. l ++ c.args.node ∷ []) c.in_ok-reserve.ensures.items in
    let counted : c.len-number.result ≡ length nodes = (let number = c.len-number.ensures in let ok = c.self.inside.nodes.ok in omega (arith, number, ok)) in
    rw (items, counted) (at_end nodes c.args.node)

pub returns-clause-came : goal.returns-clause-came
returns-clause-came c = λ x h.
    let nodes = c.self.inside.nodes.items in
    let items : c.push_reserved.new.self.items ≡ nodes ++ c.args.node ∷ [] = c.push_reserved.ensures.items ∙ ap (λ l. l ++ c.args.node ∷ []) c.in_ok-reserve.ensures.items in
    ⊎_elim (λ k. inl (subst (λ (l : List Node). Has l x) c.self.view_is k)) (λ e. inr e) (has_push nodes c.args.node x (subst (λ (l : List Node). Has l x) items h))
