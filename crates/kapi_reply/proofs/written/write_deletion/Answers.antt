use Rattle.std.proofs.Common.{◌∷◌, [], ◌++◌, ◌∙◌, ap, codes}
use Rattle.std.proofs.lemmas.Result.{on_ok_weaker}
use Rattle.json.specs.Token.{begin_object, end_object}
use Rattle.kapi_reply.proofs.Appended.{seven}
use Rattle.kapi_reply.specs.Private.Tokens.{deleted_tokens, metadata_tokens, text_tokens}
use Rattle.kapi_reply.proofs.StatusTexts.{deletion_told}
use Rattle.kapi_reply.specs.Views.{subject_data}
use Rattle.kapi_reply.proofs.written.write_deletion.Goals as goal

pub returns-clause-tokens : goal.returns-clause-tokens
returns-clause-tokens c =
    on_ok_weaker c.write_token-2.result
    (λ is. seven c.args.out.now.tokens
    (begin_object ∷ [])
    (text_tokens (codes "apiVersion") (codes "v1"))
    (deleted_tokens (subject_data c.args.subject) c.args.uid.now)
    (text_tokens (codes "kind") (codes "Status"))
    metadata_tokens
    (text_tokens (codes "status") (codes "Success"))
    (end_object ∷ [])
    c.in_ok-write_token.ensures.tokens c.in_ok-write_text.ensures.tokens c.in_ok-write_deleted.ensures.tokens c.in_ok-write_text-2.ensures.tokens c.in_ok-write_metadata.ensures.tokens c.in_ok-write_text-3.ensures.tokens
    is
    ∙ ap (λ ts. c.args.out.now.tokens ++ ts) (deletion_told (subject_data c.args.subject) c.args.uid.now))
    c.write_token-2.ensures.tokens
