use Rattle.std.proofs.Common.{Ok, sym}
use Rattle.kapi_commands.specs.Policies.{answered_told, risks_file, risks_on}
use Rattle.kapi_commands.proofs.Held.{handed_on, onward}
use Rattle.kapi_commands.proofs.policies.risks_file.Goals as goal

pub returns-in_err-loaded : goal.returns-in_err-loaded
unfolding risks_file
returns-in_err-loaded c = handed_on answered_told c.from_residual.result c.in_err-loaded.field-0.0 _ _ c.from_residual.ensures.1 c.in_err-loaded.ensures

pub returns : goal.returns
unfolding risks_file
returns c =
    onward answered_told (Ok (record { text = c.in_ok-text.text; settled = c.in_ok-loaded.loaded.settled })) _ (λ e. Ok (risks_on c.args.form e)) c.in_ok-loaded.loaded c.in_ok-loaded.ensures
    (λ i. Ok (record { text = sym c.in_ok-text.ensures i; settled = c.in_ok-loaded.loaded.settled }))
