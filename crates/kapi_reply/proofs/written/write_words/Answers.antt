use Rattle.std.proofs.Common.{◌∷◌, [], codes}
use Rattle.std.proofs.lemmas.Result.{on_ok_weaker}
use Rattle.json.specs.Token.{end_object}
use Rattle.kapi_reply.proofs.Appended.{six}
use Rattle.kapi_reply.specs.Private.Tokens.{metadata_tokens, some_text_tokens, text_tokens}
use Rattle.kapi_reply.proofs.written.write_words.Goals as goal

pub returns-clause-tokens : goal.returns-clause-tokens
returns-clause-tokens c =
    on_ok_weaker c.write_token.result
    (λ is. six c.args.out.now.tokens
    (text_tokens (codes "kind") (codes "Status"))
    (text_tokens (codes "message") c.args.message.now)
    metadata_tokens
    (some_text_tokens (codes "reason") c.args.reason.now)
    (text_tokens (codes "status") (codes "Failure"))
    (end_object ∷ [])
    c.in_ok-write_text.ensures.tokens c.in_ok-write_text-2.ensures.tokens c.in_ok-write_metadata.ensures.tokens c.in_ok-write_some_text.ensures.tokens c.in_ok-write_text-3.ensures.tokens
    is)
    c.write_token.ensures.tokens
