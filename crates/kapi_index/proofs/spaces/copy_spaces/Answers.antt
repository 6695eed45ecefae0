use Rattle.std.proofs.Common.{◌∙◌}
use Rattle.kapi_index.proofs.Copied.{space_more}
use Rattle.kapi_index.proofs.spaces.copy_spaces.Goals as goal

pub loop-name-preserved : goal.loop-name-preserved
loop-name-preserved c =
    let step = c.in-Some.ensures.steps in
    space_more c.loop-name.copied.entries _ c.in_ok-key.key c.in-Some.name.now _ c.in-Some.space.now _ c.next.new.self c.args.spaces.now.entries step c.loop-name.invariant c.requires.spread
    c.in_ok-copy_space.ensures (c.in_ok-key.ensures.ok ∙ c.as_str.ensures.value) c.in_ok-insert.ensures.entries
