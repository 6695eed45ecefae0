use Rattle.kapi_serve.proofs.Going.{adds_nothing}
use Rattle.kapi_serve.proofs.client.Client.ask.Goals as goal

pub returns-then-self-eq0 : goal.returns-then-self-eq0
returns-then-self-eq0 g c = adds_nothing _

pub returns : goal.returns
returns g c = c.retry.ensures.told
