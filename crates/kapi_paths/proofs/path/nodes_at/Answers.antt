use Rattle.std.proofs.Common.{◌∙◌, Some, ap, get_or, sym, take}
use Rattle.std.proofs.lemmas.List.{take_more}
use Rattle.kapi_paths.proofs.Graphing.{are_pushed, has_at}
use Rattle.kapi_paths.proofs.path.nodes_at.Goals as goal

pub node_at-requires : goal.node_at-requires
node_at-requires c = c.requires (get_or c.args.numbers.now c.loop-number.number-index 0) (has_at c.args.numbers.now c.loop-number.number-index 0 c.loop-number-test.true)

pub loop-number-preserved : goal.loop-number-preserved
loop-number-preserved c =
    let i = c.loop-number.number-index in
    rw (c.in_ok-push.ensures.items, take_more c.args.numbers.now i 0 c.loop-number-test.true)
    (are_pushed c.args.nodes.now (take i c.args.numbers.now) c.loop-number.list.items (get_or c.args.numbers.now i 0) c.in_ok-copy.field-0 c.loop-number.invariant
    (c.node_at.ensures ∙ ap Some (sym c.in_ok-copy.ensures)))
