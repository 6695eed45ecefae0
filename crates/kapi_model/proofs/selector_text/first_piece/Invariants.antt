use Rattle.kapi_model.proofs.Pieces.{IsFront}
use Rattle.kapi_model.proofs.selector_text.first_piece.Given as goal

abbrev pub invariant-loop-index : goal.invariant-loop-index
invariant-loop-index l = IsFront l.tokens l.index l.inside
