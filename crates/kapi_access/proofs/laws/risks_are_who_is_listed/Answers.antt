use Rattle.kapi_access.proofs.Unprivileged.{riskless_is_unlisted, unlisted_is_riskless, unprivileged_is_unlisted}
use Rattle.kapi_access.proofs.laws.risks_are_who_is_listed.Goals as goal

pub returns-clause-unlisted : goal.returns-clause-unlisted
returns-clause-unlisted c = riskless_is_unlisted

pub returns-clause-riskless : goal.returns-clause-riskless
returns-clause-riskless c = unlisted_is_riskless

pub returns-clause-unprivileged : goal.returns-clause-unprivileged
returns-clause-unprivileged c = unprivileged_is_unlisted
