use Rattle.std.proofs.Common.{◌++◌, ◌∷◌, [], ap, ◌∙◌}
use Rattle.kapi_store.proofs.Keys.{one_distinct}
use Rattle.kapi_store.proofs.key.Key.alone.Goals as goal

pub returns-clause-distinct : goal.returns-clause-distinct
returns-clause-distinct c = one_distinct _ c.args.self (c.in_ok-push.ensures.items ∙ ap (λ ks. ks ++ c.args.self ∷ []) c.in_ok-keys.ensures.items)
