use Rattle.kapi_core.specs.Opening.{empty}
use Rattle.kapi_loading.specs.Loading.{machine_alone}
use Rattle.kapi_loading.proofs.Served.{alone_is_unopened, unopened}
use Rattle.kapi_loading.proofs.starting.start_without_objects.Goals as goal

pub returns-clause-machine : goal.returns-clause-machine
unfolding machine_alone
returns-clause-machine g c = c.start_on.ensures.machine (empty c.args.table.now c.args.first) c.in_ok-emptied.ensures

pub returns-clause-unopened : goal.returns-clause-unopened
returns-clause-unopened g c = unopened _ _ (returns-clause-machine g c) (alone_is_unopened c.args.table.now c.args.first c.args.objects.now)

pub returns-clause-waiting : goal.returns-clause-waiting
returns-clause-waiting g c = c.start_on.ensures.waiting (empty c.args.table.now c.args.first) c.in_ok-emptied.ensures

pub returns-clause-seats : goal.returns-clause-seats
returns-clause-seats g c = c.start_on.ensures.seats (empty c.args.table.now c.args.first) c.in_ok-emptied.ensures
