use Rattle.std.proofs.Common.{subst}
use Rattle.kapi_core.specs.Opening.{empty}
use Rattle.kapi_core.specs.ProgramTable.{program_rows}
use Rattle.kapi_loading.specs.Loading.{machine_alone}
use Rattle.kapi_loading.specs.Starting.{Holds}
use Rattle.kapi_loading.proofs.Served.{alone_is_unopened, core_unopened}
use Rattle.kapi_loading.proofs.starting.load_policy.Goals as goal

pub returns-clause-machine : goal.returns-clause-machine
unfolding machine_alone
returns-clause-machine c =
    subst (λ rows. Holds c.load_into.result (machine_alone rows 0 c.args.objects.now)) c.in_ok-table.ensures.rows (c.load_into.ensures (empty c.in_ok-table.table 0) c.in_ok-emptied.ensures)

pub returns-clause-unopened : goal.returns-clause-unopened
returns-clause-unopened c = core_unopened _ _ (returns-clause-machine c) (alone_is_unopened program_rows 0 c.args.objects.now)
