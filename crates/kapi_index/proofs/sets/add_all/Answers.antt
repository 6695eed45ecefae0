use Rattle.std.proofs.lemmas.List.{take-append-drop}
use Rattle.kapi_index.proofs.Changed.{taken_back}
use Rattle.kapi_index.proofs.sets.add_all.Goals as goal

pub returns-in-Err-clause-kept : goal.returns-in-Err-clause-kept
returns-in-Err-clause-kept c =
    taken_back _ _ _ _ _ _ _ _ _ (take-append-drop c.loop-key.key-index c.args.keys.now) c.requires.had c.loop-key.invariant.added c.in-Err.ensures.kept c.remove_all.ensures.gone

pub returns-in-Err-clause-ordered : goal.returns-in-Err-clause-ordered
returns-in-Err-clause-ordered c = λ h. c.remove_all.ensures.ordered (c.in-Err.ensures.ordered (c.loop-key.invariant.ordered h))
