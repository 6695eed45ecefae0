use Rattle.std.proofs.Common.{ap, sym, ◌∙◌}
use Rattle.kapi_core.specs.Refines.{turned_if}
use Rattle.kapi_loading.specs.Settled.{is_nothing}
use Rattle.kapi_loading.proofs.settled.is_settled.Goals as goal

pub returns-in-Some : goal.returns-in-Some
returns-in-Some c = λ m stands. ap (λ o. is_nothing (turned_if o)) (sym c.in-Some.is) ∙ ap is_nothing (c.in_ok-turned.ensures m stands).0

pub returns-in-None : goal.returns-in-None
returns-in-None c = λ m stands. ap (λ o. is_nothing (turned_if o)) (sym c.in-None.is) ∙ ap is_nothing (c.in_ok-turned.ensures m stands).0
