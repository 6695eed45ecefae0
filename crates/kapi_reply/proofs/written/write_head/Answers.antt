use Rattle.std.proofs.Common.{◌∷◌, [], ◌++◌, ◌∙◌, ap, codes, decimal}
use Rattle.std.proofs.lemmas.Result.{on_ok_weaker}
use Rattle.json.specs.Token.{begin_object, key, number}
use Rattle.kapi_reply.proofs.Appended.{four}
use Rattle.kapi_reply.specs.Private.Tokens.{text_tokens}
use Rattle.kapi_http.specs.Message.{status_number}
use Rattle.kapi_reply.proofs.written.write_head.Goals as goal

pub returns-clause-tokens : goal.returns-clause-tokens
returns-clause-tokens c =
    on_ok_weaker c.write_number.result
    (λ is. four c.args.out.now.tokens
    (begin_object ∷ [])
    (text_tokens (codes "apiVersion") (codes "v1"))
    (key (codes "code") ∷ [])
    (number (decimal (status_number c.args.code)) ∷ [])
    c.in_ok-write_token.ensures.tokens c.in_ok-write_text.ensures.tokens c.in_ok-write_token-2.ensures.tokens
    (is ∙ ap (λ n. c.write_token-2.new.out.tokens ++ number (decimal n) ∷ []) c.number.ensures))
    c.write_number.ensures.tokens
