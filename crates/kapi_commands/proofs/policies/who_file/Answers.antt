use Rattle.kapi_commands.specs.Policies.{answered_told, lines_on, who_file}
use Rattle.kapi_commands.proofs.Held.{handed_on, onward}
use Rattle.kapi_commands.proofs.policies.who_file.Goals as goal

pub returns-in_err-loaded : goal.returns-in_err-loaded
unfolding who_file
returns-in_err-loaded c = handed_on answered_told c.from_residual.result c.in_err-loaded.field-0.0 _ _ c.from_residual.ensures.1 c.in_err-loaded.ensures

pub returns : goal.returns
unfolding who_file
returns c = onward answered_told c.who_lines.result _ (λ e. lines_on c.args.form c.args.questions.now e) c.in_ok-loaded.loaded c.in_ok-loaded.ensures c.who_lines.ensures
