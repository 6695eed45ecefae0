use Rattle.std.proofs.Common.{arith}
use Rattle.kapi_missing.proofs.Words.{none_more, shared}
use Rattle.kapi_missing.proofs.numbers.shares.Goals as goal

pub returns-then-word-word_at-ne0-clause-found : goal.returns-then-word-word_at-ne0-clause-found
returns-then-word-word_at-ne0-clause-found c =
    λ is. shared c.args.words.now c.args.others.now c.loop-place.place c.word_at.result c.word_at.ensures (let fits = c.type_inv.words c.loop-place.place in omega (arith, fits)) c.if-word-word_at-ne0.true

pub loop-place-preserved : goal.loop-place-preserved
loop-place-preserved c =
    none_more c.args.words.now c.args.others.now c.loop-place.place c.word_at.result c.word_at.ensures c.if-word-word_at-ne0.false c.loop-place.invariant
