use Rattle.std.proofs.Common.{ℕ, ◌==◌, ◌||◌, length, drop, sym, ap, ◌∙◌, arith, rules}
use Rattle.std.proofs.lemmas.List.Sums.{position_or_len_is}
use Rattle.std.proofs.lemmas.List.{take_rest, drop_all}
use Rattle.kapi_request_info.proofs.target.behind_authority.Goals as goal

pub returns-in-Some : goal.returns-in-Some
returns-in-Some c =
    let rest = c.args.rest.now in
    let found = position_or_len_is (λ (b : ℕ). b == 47 || b == 63) rest c.in-Some.at 0 (search rules) (search rules) (search rules) in
    take_rest rest _ ∙ ap (λ n. drop n rest) (sym found)

pub returns-in-None : goal.returns-in-None
returns-in-None c =
    let rest = c.args.rest.now in
    let none = position_or_len_is (λ (b : ℕ). b == 47 || b == 63) rest (length rest) 0 (omega arith) (search rules) (search rules) in
    sym (ap (λ n. drop n rest) none ∙ drop_all (length rest) rest (omega arith))
