use Rattle.std.proofs.Common.{Ok, sym}
use Rattle.kapi_commands.specs.Policies.{answered_told, what_file, what_on}
use Rattle.kapi_commands.proofs.Held.{handed_on, onward}
use Rattle.kapi_commands.proofs.policies.what_file.Goals as goal

pub returns-in_err-loaded : goal.returns-in_err-loaded
unfolding what_file
returns-in_err-loaded c = handed_on answered_told c.from_residual.result c.in_err-loaded.field-0.0 _ _ c.from_residual.ensures.1 c.in_err-loaded.ensures

pub returns : goal.returns
unfolding what_file
returns c =
    onward answered_told (Ok (record { text = c.in_ok-text.text; settled = c.in_ok-loaded.loaded.settled })) _ (λ e. Ok (what_on c.args.form c.args.holder.now e)) c.in_ok-loaded.loaded c.in_ok-loaded.ensures
    (λ i. Ok (record { text = sym c.in_ok-text.ensures i; settled = c.in_ok-loaded.loaded.settled }))
