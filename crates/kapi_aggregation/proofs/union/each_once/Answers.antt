use Rattle.std.proofs.Common.{◌≡◌, ◌∙◌, [], ◌++◌, ap, sym, append-nil, arith}
use Rattle.std.proofs.lemmas.Grind.{common_steps}
use Rattle.std.specs.Vec.Iter.{into_iter_items}
use Rattle.kapi_aggregation.proofs.Keyed.{picked_none}
use Rattle.kapi_aggregation.specs.Keyed.{picked}
use Rattle.kapi_aggregation.proofs.union.each_once.Goals as goal

pub returns : goal.returns
returns c =
    let none : into_iter_items c.loop-rule.rule-iterator ≡ [] = grind (arith, common_steps) in
    sym (append-nil c.loop-rule.kept.items)
    ∙ ap (λ rs. c.loop-rule.kept.items ++ rs) (sym (picked_none (into_iter_items c.loop-rule.first)))
    ∙ ap (λ rs. c.loop-rule.kept.items ++ picked (into_iter_items c.loop-rule.first) rs) (sym none) ∙ c.loop-rule.invariant
