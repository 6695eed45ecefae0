use Rattle.std.proofs.Common.{◌≡◌, ◌++◌, drop, map, not}
use Rattle.std.specs.List.{filter}
use Rattle.serde_json.specs.View.{view}
use Rattle.kapi_reviews.specs.Answers as written
use Rattle.kapi_reviews.proofs.rules.resource_rules.Given as goal

abbrev pub invariant-loop-rule : goal.invariant-loop-rule
invariant-loop-rule l =
    map view l.items.items ++ map written.resource_rule_tree (filter (λ r. not (written.is_url_rule r)) (drop l.rule-index l.rules))
    ≡ map written.resource_rule_tree (filter (λ r. not (written.is_url_rule r)) l.rules)
