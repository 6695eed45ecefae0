use Rattle.std.proofs.Common.{◌≡◌, [], sym, ◌∙◌, rules}
use Rattle.std.proofs.lemmas.List.{append-nil}
use Rattle.kapi_model.specs.SelectorText.{tokens}
use Rattle.kapi_model.proofs.Tokens.{no_tokens}
use Rattle.kapi_model.proofs.selector_tokens.tokens.Goals as goal

pub returns : goal.returns
returns c =
    let none : tokens c.loop-rest.rest.now ≡ [] = no_tokens c.loop-rest.rest.now (search rules) in
    let kept = rw none at c.loop-rest.invariant.1 in
    sym (append-nil c.loop-rest.tokens.items) ∙ kept
