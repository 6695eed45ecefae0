use Rattle.kapi_missing.proofs.grid.columns_of.Goals as goal

pub loop-rule-init : goal.loop-rule-init
loop-rule-init c = (c.no_columns-columns.ensures.few, λ all index everyone. c.no_columns-columns.ensures.columns all)
