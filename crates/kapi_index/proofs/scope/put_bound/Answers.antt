use Rattle.kapi_index.proofs.Reindexed.{put_under}
use Rattle.kapi_index.specs.Scopes.{group_keys, user_keys}
use Rattle.kapi_index.proofs.scope.put_bound.Goals as goal

pub returns-in-Ok-clause-by_user : goal.returns-in-Ok-clause-by_user
returns-in-Ok-clause-by_user c =
    put_under user_keys _ _ _ _ _ _ _ c.args.bound _ _ _ c.in_ok-own_name.ensures c.requires.by_user c.in-Ok.ensures.old c.into_keys-stale.ensures.users c.in-Ok.ensures.entries
    c.keys_at-in-Ok.ensures.users c.in_ok-index.ensures.users c.unindex.ensures.users (λ h. c.unindex.ensures.ordered_users (c.in_ok-index.ensures.ordered_users h))

pub returns-in-Ok-clause-by_group : goal.returns-in-Ok-clause-by_group
returns-in-Ok-clause-by_group c =
    put_under group_keys _ _ _ _ _ _ _ c.args.bound _ _ _ c.in_ok-own_name.ensures c.requires.by_group c.in-Ok.ensures.old c.into_keys-stale.ensures.groups c.in-Ok.ensures.entries
    c.keys_at-in-Ok.ensures.groups c.in_ok-index.ensures.groups c.unindex.ensures.groups (λ h. c.unindex.ensures.ordered_groups (c.in_ok-index.ensures.ordered_groups h))
