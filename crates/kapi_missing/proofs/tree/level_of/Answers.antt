use Rattle.std.proofs.Common.{◌++◌}
use Rattle.kapi_missing.proofs.tree.level_of.Goals as goal

pub returns-clause-rows : goal.returns-clause-rows
returns-clause-rows c = λ all others index. c.in_ok-entries.ensures.rows (all ++ others) index

pub returns-clause-full : goal.returns-clause-full
returns-clause-full c = λ all others test index sees.
    rw (← c.as_slice.ensures.value) (c.in_ok-full.ensures all others test sees (rw c.as_slice.ensures.value (c.in_ok-entries.ensures.rows (all ++ others) index)))
