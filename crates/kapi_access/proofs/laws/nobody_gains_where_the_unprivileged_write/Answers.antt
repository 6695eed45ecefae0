use Rattle.kapi_escalation_laws.proofs.Law.{nobody_gains}
use Rattle.kapi_access.proofs.laws.nobody_gains_where_the_unprivileged_write.Goals as goal

pub returns : goal.returns
returns c = λ acting start now steps order settled unprivileged. nobody_gains acting start now steps (record { order = order; settled = settled; unprivileged = unprivileged })
