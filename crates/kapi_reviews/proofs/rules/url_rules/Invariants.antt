use Rattle.std.proofs.Common.{◌≡◌, ◌++◌, drop, map}
use Rattle.std.specs.List.{filter}
use Rattle.serde_json.specs.View.{view}
use Rattle.kapi_reviews.specs.Answers as written
use Rattle.kapi_reviews.proofs.rules.url_rules.Given as goal

abbrev pub invariant-loop-rule : goal.invariant-loop-rule
invariant-loop-rule l =
    map view l.items.items ++ map written.url_rule_tree (filter written.is_url_rule (drop l.rule-index l.rules))
    ≡ map written.url_rule_tree (filter written.is_url_rule l.rules)
