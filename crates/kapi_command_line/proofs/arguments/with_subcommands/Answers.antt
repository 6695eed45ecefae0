-- A subcommand that is added is one more of the program's.
use Rattle.kapi_command_line.proofs.Table.{one_shape}
use Rattle.kapi_command_line.proofs.arguments.with_subcommands.Goals as goal

pub loop-subcommand-preserved : goal.loop-subcommand-preserved
loop-subcommand-preserved c =
    one_shape _ _ _ c.args.subcommands.now c.loop-subcommand.subcommand-index _ _ c.loop-subcommand-test.true c.in_ok-program.ensures c.in_ok-command.ensures.local c.in_ok-command.ensures.shape c.loop-subcommand.invariant
