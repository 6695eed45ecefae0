use Rattle.std.proofs.Common.{◌∷◌, [], codes}
use Rattle.std.proofs.lemmas.Result.{on_ok_weaker}
use Rattle.json.specs.Token.{begin_object, end_object}
use Rattle.kapi_reply.proofs.Appended.{five}
use Rattle.kapi_reply.specs.Private.Tokens.{text_tokens}
use Rattle.kapi_reply.proofs.written.write_field.Goals as goal

pub returns-clause-tokens : goal.returns-clause-tokens
returns-clause-tokens c =
    on_ok_weaker c.write_token-2.result
    (λ is. five c.args.out.now.tokens
    (begin_object ∷ [])
    (text_tokens (codes "field") c.args.field.now)
    (text_tokens (codes "message") c.args.words.now)
    (text_tokens (codes "reason") (codes "FieldValueInvalid"))
    (end_object ∷ [])
    c.in_ok-write_token.ensures.tokens c.in_ok-write_text.ensures.tokens c.in_ok-write_text-2.ensures.tokens c.in_ok-write_text-3.ensures.tokens
    is)
    c.write_token-2.ensures.tokens
