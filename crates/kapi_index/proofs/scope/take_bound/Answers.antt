use Rattle.kapi_index.proofs.Reindexed.{taken_under}
use Rattle.kapi_index.specs.Scopes.{group_keys, user_keys}
use Rattle.kapi_index.proofs.scope.take_bound.Goals as goal

pub returns-clause-by_user : goal.returns-clause-by_user
returns-clause-by_user c =
    taken_under user_keys _ _ _ _ _ _ _ _ c.requires.sorted c.requires.by_user c.remove.ensures.value c.into_keys-stale.ensures.users c.remove.ensures.entries c.none.ensures.users c.unindex.ensures.users c.unindex.ensures.ordered_users

pub returns-clause-by_group : goal.returns-clause-by_group
returns-clause-by_group c =
    taken_under group_keys _ _ _ _ _ _ _ _ c.requires.sorted c.requires.by_group c.remove.ensures.value c.into_keys-stale.ensures.groups c.remove.ensures.entries c.none.ensures.groups c.unindex.ensures.groups c.unindex.ensures.ordered_groups
