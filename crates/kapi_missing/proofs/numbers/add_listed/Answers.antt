use Rattle.std.proofs.Common.{◌<◌, length, take, arith}
use Rattle.std.proofs.lemmas.Grind.{common_steps}
use Rattle.std.proofs.lemmas.List.{take_more}
use Rattle.kapi_missing.proofs.Words.{listed_more}
use Rattle.kapi_missing.proofs.numbers.add_listed.Goals as goal

pub loop-number-preserved : goal.loop-number-preserved
loop-number-preserved c =
    let within : c.loop-number.number-index < length c.args.list.now = grind (arith, common_steps) in (
      grind (arith, common_steps),
      λ n. rw (take_more c.args.list.now c.loop-number.number-index 0 within)
          (listed_more c.args.words.now (take c.loop-number.number-index c.args.list.now) _ n _ _ _ (c.add_if_set.ensures.bits n) (c.loop-number.invariant.1 n)),
    )
