-- An argument that is added is one more rule, and none is global.
use Rattle.std.proofs.Common.{ap₂, ◌∙◌, ◌||◌}
use Rattle.kapi_command_line.proofs.Table.{one_rule}
use Rattle.kapi_command_line.proofs.arguments.with_arguments.Goals as goal

pub loop-argument-preserved : goal.loop-argument-preserved
loop-argument-preserved c = (
  one_rule _ _ _ c.args.arguments.now c.loop-argument.argument-index _ _ c.loop-argument-test.true c.in_ok-command.ensures c.arg.ensures.local c.arg.ensures.rule c.loop-argument.invariant.0,
  c.in_ok-command.ensures.globals ∙ ap₂ ◌||◌ c.loop-argument.invariant.1 c.arg.ensures.local,
)
