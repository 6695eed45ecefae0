use Rattle.std.proofs.Common.{◌≡◌, length, ap, ◌∙◌, arith, rules}
use Rattle.std.specs.List.{position_or_len}
use Rattle.std.proofs.lemmas.List.Sums.{position_or_len_is}
use Rattle.kapi_model.specs.SelectorText.{ends_word}
use Rattle.kapi_model.proofs.Tokens.{cut_at, cut_at_end, first_word, word_has_bytes}
use Rattle.kapi_model.proofs.selector_tokens.front_word.Goals as goal

pub returns-in-Some-clause-split : goal.returns-in-Some-clause-split
returns-in-Some-clause-split c =
    let text = c.args.text.now in
    let found = position_or_len_is ends_word text c.in-Some.end 0 (search rules) (search rules) (search rules) in
    rw (c.split_at.ensures.front, c.split_at.ensures.back) (first_word text c.requires.some c.requires.a_word ∙ ap (cut_at text) found)

pub returns-in-Some-clause-shorter : goal.returns-in-Some-clause-shorter
returns-in-Some-clause-shorter c =
    let text = c.args.text.now in
    let found : position_or_len ends_word text ≡ c.in-Some.end = position_or_len_is ends_word text c.in-Some.end 0 (search rules) (search rules) (search rules) in
    omega (arith, word_has_bytes text c.requires.some c.requires.a_word)

pub returns-in-None-clause-split : goal.returns-in-None-clause-split
returns-in-None-clause-split c =
    let text = c.args.text.now in
    let none = position_or_len_is ends_word text (length text) 0 (omega arith) (search rules) (search rules) in
    first_word text c.requires.some c.requires.a_word ∙ ap (cut_at text) none ∙ cut_at_end text
