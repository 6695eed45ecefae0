use Rattle.std.proofs.Common.{true}
use Rattle.kapi_serve.proofs.Tending.{keeps_blocked}
use Rattle.kapi_serve.proofs.client.Client.block.Goals as goal

pub returns-clause-keeps : goal.returns-clause-keeps
returns-clause-keeps c = keeps_blocked _ true
