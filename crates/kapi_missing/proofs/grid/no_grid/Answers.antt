use Rattle.kapi_missing.proofs.Gridding.{no_groups}
use Rattle.kapi_missing.proofs.grid.no_grid.Goals as goal

pub returns-clause-marks : goal.returns-clause-marks
returns-clause-marks c = λ all. no_groups all c.no_columns.result _ c.no_columns.ensures.none
