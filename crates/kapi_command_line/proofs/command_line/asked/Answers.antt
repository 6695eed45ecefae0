-- The subcommand entered by clap is the requested one.
use Rattle.std.proofs.Common.{option_and_then, subst, sym}
use Rattle.kapi_command_line.specs.Asked.{Reads, asked_by}
use Rattle.kapi_command_line.proofs.Values.{entered}
use Rattle.kapi_command_line.proofs.command_line.asked.Goals as goal

pub returns-in-Some : goal.returns-in-Some
returns-in-Some c =
    subst (λ o. Reads c.named.result (option_and_then (λ p. asked_by p.0 p.1) o)) (sym (entered c.args.matches.now _ _ (sym c.in-Some.ensures.name) (sym c.in-Some.ensures.rows)))
    c.named.ensures
