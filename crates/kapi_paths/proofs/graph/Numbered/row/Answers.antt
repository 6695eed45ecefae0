use Rattle.std.proofs.Common.{[], ◌∷◌, ◌++◌, inl, inr, subst, ⊎_elim}
use Rattle.kapi_paths.specs.Chains.{Has}
use Rattle.kapi_paths.proofs.Graphing.{are_kept, are_pushed, begins_then}
use Rattle.kapi_paths.proofs.Grown.{has_last, has_left}
use Rattle.kapi_paths.proofs.graph.Numbered.row.Goals as goal

pub loop-node-preserved : goal.loop-node-preserved
loop-node-preserved c =
    let seen = c.loop-node.yielded in
    let node = c.in-Some.node in
    record {
      at = rw c.in_ok-push.ensures.items (are_pushed c.number.new.self c.loop-node.row.items seen c.in_ok-number.field-0 node
          (are_kept c.loop-node.self c.number.new.self c.in_ok-number.ensures.more c.loop-node.row.items seen c.loop-node.invariant.at) c.in_ok-number.ensures.at);
      more = begins_then c.args.self.now c.loop-node.self c.number.new.self c.loop-node.invariant.more c.in_ok-number.ensures.more;
      came = λ x h. ⊎_elim
          (λ k. ⊎_elim (λ l. inl l) (λ l. inr (has_left seen (node ∷ []) x l)) (c.loop-node.invariant.came x k))
          (λ e. inr (subst (λ y. Has (seen ++ node ∷ []) y) e (has_last seen node)))
          (c.in_ok-number.ensures.came x h);
    }
