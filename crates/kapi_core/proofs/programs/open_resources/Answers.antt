use Rattle.std.proofs.Common.{refl}
use Rattle.kapi_core.specs.ProgramTable.{open_rows}
use Rattle.kapi_core.proofs.programs.open_resources.Goals as goal

pub returns : goal.returns
unfolding open_rows
returns c =
    rw (
      c.open.ensures,
      c.open-2.ensures,
      c.open-3.ensures,
      c.open-4.ensures,
      c.open-5.ensures,
      c.open-6.ensures,
    ) refl
