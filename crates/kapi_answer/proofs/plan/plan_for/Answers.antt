use Rattle.kapi_store.specs.Plain.{plain_of}
use Rattle.kapi_answer.proofs.Watched.{startable_served}
use Rattle.kapi_answer.proofs.plan.plan_for.Goals as goal

pub plan_on-requires : goal.plan_on-requires
plan_on-requires g c = startable_served (plain_of c.args.store.now) c.in_ok-filter.filter.since c.in_ok-check_start.ensures
