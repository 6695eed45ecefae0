use Rattle.kapi_aggregation.proofs.Marking.{start_before_end}
use Rattle.kapi_aggregation.proofs.takers.put_names_at.Goals as goal

pub range-taker-items-requires : goal.range-taker-items-requires
range-taker-items-requires c = rw (c.in_ok-start.ensures, c.in_ok-end.ensures) (start_before_end c.args.label.now)
