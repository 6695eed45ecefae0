use Rattle.kapi_watch.proofs.Histories.{no_change, created_goes_on, replaced_goes_on, removed_goes_on}
use Rattle.kapi_watch.proofs.laws.a_store_writes_a_history.Goals as goal

pub returns-clause-none : goal.returns-clause-none
returns-clause-none c = no_change

pub returns-clause-creation : goal.returns-clause-creation
returns-clause-creation c = created_goes_on

pub returns-clause-replacement : goal.returns-clause-replacement
returns-clause-replacement c = replaced_goes_on

pub returns-clause-removal : goal.returns-clause-removal
returns-clause-removal c = removed_goes_on
