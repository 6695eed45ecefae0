use Rattle.std.proofs.Common.{◌≡◌}
use Rattle.kapi_missing.proofs.Words.{no_word, zeros}
use Rattle.kapi_missing.proofs.numbers.no_numbers.Goals as goal

pub returns-clause-bits : goal.returns-clause-bits
returns-clause-bits c =
    let is : c.in_ok-vec.field-0.items ≡ zeros c.args.count = c.in_ok-vec.ensures.items_if_clones_equal (λ y same. same) in
    λ n. no_word c.in_ok-vec.field-0.items c.args.count n is
