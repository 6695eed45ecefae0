use Rattle.std.proofs.Common.{sym, ◌∙◌}
use Rattle.kapi_missing.proofs.Words.{listed_number, no_listed_number}
use Rattle.kapi_missing.proofs.numbers.is_common.Goals as goal

pub returns-in-Few-clause-found : goal.returns-in-Few-clause-found
returns-in-Few-clause-found c = λ is. rw (c.in-Few.is, ← c.as_slice.ensures.value) (listed_number c.args.words.now _ (sym c.some_is_set.ensures ∙ is))

pub returns-in-Few-clause-none : goal.returns-in-Few-clause-none
returns-in-Few-clause-none c = λ is. rw (c.in-Few.is, ← c.as_slice.ensures.value) (no_listed_number c.args.words.now _ (sym c.some_is_set.ensures ∙ is))
