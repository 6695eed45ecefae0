use Rattle.kapi_serve.proofs.Tending.{keeps_held, waits_held}
use Rattle.kapi_serve.proofs.client.Client.hold.Goals as goal

pub returns-clause-waits : goal.returns-clause-waits
returns-clause-waits c = waits_held _ _

pub returns-clause-keeps : goal.returns-clause-keeps
returns-clause-keeps c = keeps_held _ _
