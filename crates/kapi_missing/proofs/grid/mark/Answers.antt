use Rattle.kapi_missing.proofs.Gridding.{marked_more}
use Rattle.kapi_missing.proofs.grid.mark.Goals as goal

pub returns-clause-marks : goal.returns-clause-marks
returns-clause-marks c = λ before others s is are were.
    marked_more before others s c.args.grid.now.columns c.args.grid.now.marks.items c.mark_rows.new.marks.items c.in_ok-area.area.rows.items c.in_ok-area.area.names c.args.number is c.requires.few are
    (rw c.as_slice.ensures.value at c.mark_rows.ensures.bits) c.in_ok-area.ensures.rows c.in_ok-area.ensures.names were
