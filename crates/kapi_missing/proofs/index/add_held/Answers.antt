use Rattle.std.proofs.Common.{[], ◌∷◌, ◌++◌, refl}
use Rattle.kapi_missing.proofs.Placing.{both_ok}
use Rattle.kapi_missing.specs.Private.Stoppers.{held_one}
use Rattle.kapi_missing.proofs.index.add_held.Goals as goal

pub returns : goal.returns
returns c =
    both_ok c.place_held.result (λ covered listed all number index. (
      listed (all ++ held_one c.args.rule.now ∷ []) (c.in_ok-place.ensures.listed all (held_one c.args.rule.now) refl number index.0),
      covered all number (c.in_ok-place.ensures.covered all index.1),
    )) c.place_held.ensures.covered c.place_held.ensures.listed
