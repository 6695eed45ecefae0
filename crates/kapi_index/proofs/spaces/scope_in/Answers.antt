use Rattle.kapi_index.proofs.Walks.{bindings_absent, bindings_found}
use Rattle.kapi_index.proofs.spaces.scope_in.Goals as goal

pub returns-in-Some : goal.returns-in-Some
returns-in-Some c = bindings_found _ _ _ c.requires.spread c.in-Some.ensures.value

pub returns-in-None : goal.returns-in-None
returns-in-None c = bindings_absent _ _ c.requires.spread c.in-None.ensures.value
