use Rattle.std.proofs.Common.{refl}
use Rattle.kapi_missing.proofs.Placing.{both_ok, still_covered}
use Rattle.kapi_missing.specs.Private.Stoppers.{earlier_one}
use Rattle.kapi_missing.proofs.index.add_wanted.Goals as goal

pub returns : goal.returns
returns c =
    both_ok c.place.result (λ listed covered all number index. (
      listed all (earlier_one c.args.rule.now) refl number index.0,
      still_covered all c.args.rule.now c.place.new.rules (covered all index.1),
    )) c.place.ensures.listed c.place.ensures.covered
