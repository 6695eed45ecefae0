use Rattle.std.proofs.Common.{◌≡◌, drop, false, map}
use Rattle.clap.specs.Simple.{app_of}
use Rattle.clap.specs.declared.builder.command.Command.TheViews.{out-Command}
use Rattle.kapi_command_line.specs.Private.Table.{rule_by, with_rules}
use Rattle.kapi_command_line.proofs.arguments.with_arguments.Given as goal

-- the command with the arguments that are left is the command with all
abbrev pub invariant-loop-argument : goal.invariant-loop-argument
invariant-loop-argument l =
    (with_rules (app_of l.command) (map rule_by (drop l.argument-index l.arguments)) ≡ with_rules (app_of l.fn.command) (map rule_by l.arguments))
    × ((out-Command l.command).has_globals ≡ false)
