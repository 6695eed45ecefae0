use Rattle.std.proofs.Common.{sym, ◌∙◌, arith}
use Rattle.kapi_model.proofs.Pieces.{front_begins, front_goes_on, front_is_all, front_is_parted}
use Rattle.kapi_model.proofs.selector_text.first_piece.Goals as goal

pub loop-index-init : goal.loop-index-init
loop-index-init c = front_begins c.args.tokens.now

pub loop-index-preserved : goal.loop-index-preserved
loop-index-preserved c =
    front_goes_on c.args.tokens.now c.loop-index.index c.loop-index.inside c.is_inside-inside.result c.index-tokens-index.result
    (omega arith) c.index-tokens-index.is (sym c.is_parting.ensures ∙ c.if-is_parting.false) c.is_inside-inside.ensures c.loop-index.invariant

pub returns-then-is_parting-clause-parted : goal.returns-then-is_parting-clause-parted
returns-then-is_parting-clause-parted c =
    front_is_parted c.args.tokens.now c.loop-index.index c.loop-index.inside c.index-tokens-index.result
    (omega arith) c.index-tokens-index.is (sym c.is_parting.ensures ∙ c.if-is_parting.true) c.loop-index.invariant

pub returns-clause-parted : goal.returns-clause-parted
returns-clause-parted c = front_is_all c.args.tokens.now c.loop-index.index c.loop-index.inside (omega arith) c.loop-index.invariant
