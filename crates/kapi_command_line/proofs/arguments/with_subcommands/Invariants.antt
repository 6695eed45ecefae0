use Rattle.std.proofs.Common.{◌≡◌, drop, map}
use Rattle.clap.specs.Simple.{app_of}
use Rattle.kapi_command_line.specs.Private.Table.{shape_by, with_shapes}
use Rattle.kapi_command_line.proofs.arguments.with_subcommands.Given as goal

-- the program with the subcommands that are left is the program with all
abbrev pub invariant-loop-subcommand : goal.invariant-loop-subcommand
invariant-loop-subcommand l =
    with_shapes (app_of l.program) (map shape_by (drop l.subcommand-index l.subcommands)) ≡ with_shapes (app_of l.fn.program) (map shape_by l.subcommands)
