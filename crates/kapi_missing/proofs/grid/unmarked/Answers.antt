use Rattle.std.proofs.Common.{[]}
use Rattle.kapi_missing.proofs.Gridding.{none_marked}
use Rattle.kapi_missing.proofs.grid.unmarked.Goals as goal

pub returns-then-saturating_mul-gt-STEPS-clause-columns : goal.returns-then-saturating_mul-gt-STEPS-clause-columns
returns-then-saturating_mul-gt-STEPS-clause-columns c = λ all are. c.no_grid.ensures.columns all

pub returns-then-saturating_mul-gt-STEPS-clause-marks : goal.returns-then-saturating_mul-gt-STEPS-clause-marks
returns-then-saturating_mul-gt-STEPS-clause-marks c = c.no_grid.ensures.marks []

pub returns-clause-marks : goal.returns-clause-marks
returns-clause-marks c = none_marked c.args.columns c.in_ok-marks.marks.items c.requires c.in_ok-marks.ensures.bits
