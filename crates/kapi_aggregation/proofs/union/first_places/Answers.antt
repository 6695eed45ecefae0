use Rattle.std.proofs.Common.{◌≡◌, ◌+◌, ◌∙◌, [], ◌∷◌, ◌++◌, List, take, sym, ap, subst, add-one}
use Rattle.std.proofs.Math.Seq.{take-suc}
use Rattle.kapi_model.specs.declared.policy_rule.PolicyRule.{PolicyRule}
use Rattle.kapi_aggregation.proofs.Keyed.{Passed, passed_more}
use Rattle.kapi_aggregation.proofs.union.first_places.Goals as goal

pub loop-rule-preserved : goal.loop-rule-preserved
loop-rule-preserved c =
    let i = c.loop-rule.rule-index in
    let rules : List PolicyRule = c.args.rules.now in
    let x : PolicyRule = c.rule-item.result in
    let cut : take (i + 1) rules ≡ take i rules ++ x ∷ [] = ap (λ n. take n rules) (add-one i) ∙ take-suc rules i x c.loop-rule-test.true ∙ ap (λ y. take i rules ++ y ∷ []) (sym c.rule-item.is) in
    subst (λ rs. Passed c.insert.new.self.keys c.push.new.self.items rs) (sym cut)
    (subst (λ bs. Passed c.insert.new.self.keys bs (take i rules ++ x ∷ [])) (sym c.in_ok-push.ensures.items)
    (passed_more c.loop-rule.seen.keys c.insert.new.self.keys c.loop-rule.first.items (take i rules) c.key_of.result x c.in_ok-insert.field-0 c.key_of.ensures c.loop-rule.invariant
    c.in_ok-insert.ensures.added c.in_ok-insert.ensures.updates.0 c.in_ok-insert.ensures.unchanged))
