use Rattle.kapi_model.proofs.Tokens.{first_mark, mark_cuts}
use Rattle.kapi_model.proofs.selector_tokens.front_mark.Goals as goal

pub split_at-requires : goal.split_at-requires
split_at-requires c =
    rw (c.mark_length.ensures, c.is_before_equals-before_equals.ensures, c.as_bytes.ensures.value, c.as_bytes-2.ensures.value) (mark_cuts c.args.text.now c.utf8.text c.requires.some c.requires.no_word)

pub returns-clause-split : goal.returns-clause-split
returns-clause-split c =
    rw (c.mark.ensures, c.split_at.ensures.back, c.mark_length.ensures, c.is_before_equals-before_equals.ensures, c.as_bytes.ensures.value, c.as_bytes-2.ensures.value) (first_mark c.args.text.now c.requires.some c.requires.no_word)
