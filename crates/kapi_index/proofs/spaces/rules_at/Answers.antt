use Rattle.std.proofs.Common.{◌∙◌}
use Rattle.kapi_index.proofs.Walks.{role_absent, role_found}
use Rattle.kapi_index.proofs.spaces.rules_at.Goals as goal

pub returns-in-Some : goal.returns-in-Some
returns-in-Some c = c.rules_named.ensures ∙ role_found _ _ _ _ c.requires.spread c.in-Some.ensures.value

pub returns-in-None : goal.returns-in-None
returns-in-None c = role_absent _ _ _ c.requires.spread c.in-None.ensures.value
