use Rattle.kapi_watch.proofs.Lists.{store_shows, store_showed}
use Rattle.kapi_watch.proofs.laws.the_lists_are_those_of_the_store.Goals as goal

pub returns-clause-now : goal.returns-clause-now
returns-clause-now c = store_shows

pub returns-clause-at : goal.returns-clause-at
returns-clause-at c = store_showed
