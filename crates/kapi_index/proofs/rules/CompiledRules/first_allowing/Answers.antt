use Rattle.std.proofs.Common.{◌∙◌}
use Rattle.kapi_index.proofs.Exact.{first_exact}
use Rattle.kapi_index.proofs.rules.CompiledRules.first_allowing.Goals as goal

pub returns : goal.returns
returns c =
    rw (← c.self.view_is) (c.first_of.ensures ∙ first_exact c.self.inside.rules _ _ (c.as_slice.ensures ∙ c.self.invariant))
