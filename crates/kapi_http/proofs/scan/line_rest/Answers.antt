use Rattle.std.proofs.Common.{ℕ, ◌==◌, length, sym, arith, rules}
use Rattle.std.proofs.lemmas.List.Sums.{position_or_len_is}
use Rattle.kapi_http.proofs.scan.line_rest.Goals as goal

pub returns-in-Some-clause-exact : goal.returns-in-Some-clause-exact
returns-in-Some-clause-exact c =
    sym (position_or_len_is (λ (b : ℕ). b == 10) c.args.bytes.now c.in-Some.at 0 (search rules) (search rules) (search rules))

pub returns-in-None-clause-exact : goal.returns-in-None-clause-exact
returns-in-None-clause-exact c =
    let bytes = c.args.bytes.now in
    sym (position_or_len_is (λ (b : ℕ). b == 10) bytes (length bytes) 0 (omega arith) (search rules) (search rules))
