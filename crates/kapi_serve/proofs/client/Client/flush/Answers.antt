use Rattle.kapi_serve.proofs.Going.{goes_nothing, goes_on}
use Rattle.kapi_serve.proofs.Tending.{keeps_nothing, keeps_on}
use Rattle.kapi_serve.proofs.client.Client.flush.Goals as goal

pub loop-init : goal.loop-init
loop-init g c = ((λ a d k front back. goes_nothing _), keeps_nothing _)

pub loop-preserved : goal.loop-preserved
loop-preserved g c = ((λ a d k front back. goes_on _ _ _ (c.loop.invariant.0 a d k front back) (c.write.ensures.writes a d k front back)), keeps_on _ _ _ c.loop.invariant.1 c.write.ensures.keeps)

pub returns-in-Nothing-clause-writes : goal.returns-in-Nothing-clause-writes
returns-in-Nothing-clause-writes g c = λ a d k front back. goes_on _ _ _ (c.loop.invariant.0 a d k front back) (c.write.ensures.writes a d k front back)

pub returns-in-Nothing-clause-keeps : goal.returns-in-Nothing-clause-keeps
returns-in-Nothing-clause-keeps g c = keeps_on _ _ _ c.loop.invariant.1 c.write.ensures.keeps

pub returns-in-Failed-clause-writes : goal.returns-in-Failed-clause-writes
returns-in-Failed-clause-writes g c = λ a d k front back. goes_on _ _ _ (c.loop.invariant.0 a d k front back) (c.write.ensures.writes a d k front back)

pub returns-in-Failed-clause-keeps : goal.returns-in-Failed-clause-keeps
returns-in-Failed-clause-keeps g c = keeps_on _ _ _ c.loop.invariant.1 c.write.ensures.keeps
