use Rattle.std.proofs.Common.{◌∙◌}
use Rattle.kapi_missing.proofs.Words.{marked_all, marked_more}
use Rattle.kapi_missing.proofs.numbers.add_marked.Goals as goal

pub loop-place-preserved : goal.loop-place-preserved
loop-place-preserved c = (
  c.or_at.ensures.long ∙ c.loop-place.invariant.0,
  λ n. marked_more c.args.words.now c.args.others.now c.loop-place.place c.word_at.result n _ _ _ c.word_at.ensures (c.or_at.ensures.bits n) (c.loop-place.invariant.1 n),
)

pub returns-clause-bits : goal.returns-clause-bits
returns-clause-bits c = λ n. marked_all c.args.words.now c.args.others.now c.loop-place.place n _ _ c.loop-place-test.false (c.loop-place.invariant.1 n)
