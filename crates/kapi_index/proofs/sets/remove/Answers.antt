use Rattle.std.proofs.Common.{◌∙◌, sym}
use Rattle.kapi_index.proofs.Changed.{removes_onward}
use Rattle.kapi_index.proofs.sets.remove.Goals as goal

pub returns-then-take_name-clause-gone : goal.returns-then-take_name-clause-gone
returns-then-take_name-clause-gone c =
    removes_onward _ _ _ _ _ c.take_name.ensures.gone (sym c.take_name.ensures.empty ∙ c.if-take_name.true) c.remove.ensures.updates.0
