use Rattle.std.proofs.Common.{Ok, ap}
use Rattle.kapi_text.specs.ResultIs.{◌>>=◌}
use Rattle.kapi_commands.specs.Policies.{settled_file}
use Rattle.kapi_commands.specs.declared.policies.Answered.{Answered}
use Rattle.kapi_commands.proofs.Held.{handed_on}
use Rattle.kapi_commands.proofs.policies.paths_file.Goals as goal

pub returns-in_err-loaded-clause-settled : goal.returns-in_err-loaded-clause-settled
unfolding settled_file
returns-in_err-loaded-clause-settled c =
    handed_on (λ (a : Answered). a.settled) c.from_residual.result c.in_err-loaded.field-0.0 _ _ c.from_residual.ensures.1 c.in_err-loaded.ensures

pub returns-clause-settled : goal.returns-clause-settled
unfolding settled_file
returns-clause-settled c = ap (λ r. r >>= λ e. Ok e.settled) c.in_ok-loaded.ensures
