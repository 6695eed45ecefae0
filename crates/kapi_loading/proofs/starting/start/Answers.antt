use Rattle.kapi_core.specs.Opening.{opening}
use Rattle.kapi_loading.specs.Loading.{machine_from}
use Rattle.kapi_loading.proofs.Served.{file_is_unopened, unopened}
use Rattle.kapi_loading.proofs.starting.start.Goals as goal

pub returns-clause-machine : goal.returns-clause-machine
unfolding machine_from
returns-clause-machine g c = c.start_on.ensures.machine (opening c.args.table.now c.args.first) c.in_ok-opened.ensures

pub returns-clause-unopened : goal.returns-clause-unopened
returns-clause-unopened g c = unopened _ _ (returns-clause-machine g c) (file_is_unopened c.args.table.now c.args.first c.args.objects.now)

pub returns-clause-waiting : goal.returns-clause-waiting
returns-clause-waiting g c = c.start_on.ensures.waiting (opening c.args.table.now c.args.first) c.in_ok-opened.ensures

pub returns-clause-seats : goal.returns-clause-seats
returns-clause-seats g c = c.start_on.ensures.seats (opening c.args.table.now c.args.first) c.in_ok-opened.ensures
