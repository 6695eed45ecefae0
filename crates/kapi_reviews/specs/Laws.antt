-- What the answer to a review says, in the terms of a reader.
use Rattle.std.specs.Prelude.{Bool, ◌||◌, Option, codes, option_and_then}
use Rattle.std.specs.List.{list_any}
use Rattle.serde_json.specs.Data.{Data}
use Rattle.serde_json.specs.Find.{get}
use Rattle.kapi_policy.specs.Decided.{held}
use Rattle.kapi_policy.specs.Objects.{PolicyObjects}
use Rattle.kapi_model.specs.Identities.{is_master}
use Rattle.kapi_rules.specs.Rules.{allows}
use Rattle.kapi_reviews.specs.declared.question.Question.{Question}

-- what an answer says of being allowed
abbrev pub said : Data → Option Data
said d = option_and_then (get (codes "allowed")) (get (codes "status") d)

-- members of `system:masters` may do everything, others what a rule that they hold in the namespace allows
abbrev pub may : PolicyObjects → Question → Bool
may objects q = is_master q.identity || list_any (λ rule. allows rule q.point) (held objects q.identity q.namespace)
