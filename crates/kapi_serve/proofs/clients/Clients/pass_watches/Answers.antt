use Rattle.std.proofs.Common.{refl, ◌∙◌}
use Rattle.kapi_serve.proofs.Going.{goes_nothing, goes_on}
use Rattle.kapi_serve.proofs.Tending.{on_both, on_nothing}
use Rattle.kapi_serve.proofs.clients.Clients.pass_watches.Goals as goal

pub loop-index-init : goal.loop-index-init
loop-index-init g c = (goes_nothing _, on_nothing _ _ _, refl, refl)

pub loop-index-preserved : goal.loop-index-preserved
loop-index-preserved g c = (
  goes_on _ _ _ c.loop-index.invariant.0 c.pass_at.ensures.goes,
  on_both _ _ _ _ _ _ _ _ _ c.loop-index.invariant.1 c.pass_at.ensures.stands,
  c.pass_at.ensures.awake ∙ c.loop-index.invariant.2,
  c.pass_at.ensures.count ∙ c.loop-index.invariant.3,
)
