use Rattle.kapi_core.proofs.Histories.{served_is_a_history, stood_for_goes_on, stood_for_loads, turn_replaces}
use Rattle.kapi_core.proofs.laws.the_changes_of_a_machine_are_a_history.Goals as goal

pub returns-clause-served : goal.returns-clause-served
returns-clause-served c = served_is_a_history

pub returns-clause-events : goal.returns-clause-events
returns-clause-events c = stood_for_goes_on

pub returns-clause-loads : goal.returns-clause-loads
returns-clause-loads c = stood_for_loads

pub returns-clause-turns : goal.returns-clause-turns
returns-clause-turns c = turn_replaces
