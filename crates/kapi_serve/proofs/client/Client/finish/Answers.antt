use Rattle.std.proofs.Common.{refl, sym, inl, inr, ◌∙◌}
use Rattle.kapi_serve.proofs.Tending.{closed_not_ending, open_not_ending}
use Rattle.kapi_serve.proofs.client.Client.finish.Goals as goal

pub returns-in-Ending : goal.returns-in-Ending
returns-in-Ending g c = inl (c.in-Ending.is, refl, c.close.ensures, refl)

pub returns-in-Open : goal.returns-in-Open
returns-in-Open g c = inr ((λ e. open_not_ending (sym c.in-Open.is ∙ e)), refl, refl, refl)

pub returns-in-Closed : goal.returns-in-Closed
returns-in-Closed g c = inr ((λ e. closed_not_ending (sym c.in-Closed.is ∙ e)), refl, refl, refl)
