use Rattle.kapi_aggregation.specs.Marks.{taker_cmp}
use Rattle.kapi_aggregation.proofs.Marking.{put_keeps}
use Rattle.kapi_aggregation.proofs.takers.put_label.Goals as goal

pub returns-clause-kept : goal.returns-clause-kept
returns-clause-kept c = λ t h. rw c.in_ok-insert.ensures.keys (put_keeps taker_cmp c.args.givers.now.keys _ t h)
