use Rattle.kapi_missing.proofs.Gridding.{column_sees, columns_push}
use Rattle.kapi_missing.specs.Private.Left.{item}
use Rattle.kapi_missing.specs.Private.Numbers.{some_has}
use Rattle.kapi_missing.proofs.grid.add_column.Goals as goal

pub returns-in_ok-push-clause-columns : goal.returns-in_ok-push-clause-columns
returns-in_ok-push-clause-columns c = λ all index everyone are.
    rw c.in_ok-push.ensures.items
    (columns_push all c.args.columns.now.items _ are
    (column_sees all (item c.args.part) c.args.everyone.now c.in_ok-rules.rules.items (some_has c.as_slice-then-is_none.result.now) c.in_ok-rules.ensures
    (rw c.as_slice-then-is_none.ensures.value (c.in_ok-row.ensures all index)) everyone))
