use Rattle.std.proofs.Common.{◌++◌, ◌∙◌, ap, map}
use Rattle.std.proofs.lemmas.Result.{on_ok_weaker}
use Rattle.std.specs.Option.{option_map}
use Rattle.kapi_http.specs.Message.{status_number}
use Rattle.kapi_reply.proofs.Appended.{three}
use Rattle.kapi_reply.proofs.StatusTexts.{status_told}
use Rattle.kapi_reply.specs.Private.Tokens.{details_tokens, head_tokens, words_tokens}
use Rattle.kapi_reply.specs.Views.{cause_data, failure_data, subject_data}
use Rattle.kapi_reply.proofs.written.write_status.Goals as goal

pub returns-clause-tokens : goal.returns-clause-tokens
returns-clause-tokens c =
    let subject = option_map subject_data c.args.subject in
    let failed = failure_data c.args.failure.now in
    let causes = ap (λ cs. c.write_head.new.out.tokens ++ details_tokens subject (map cause_data cs)) c.as_slice.ensures.value in
    let words = ap (λ m. c.write_details.new.out.tokens ++ words_tokens m failed.reason) c.as_str.ensures.value in
    on_ok_weaker c.write_words.result
    (λ is. three c.args.out.now.tokens (head_tokens (status_number failed.code)) (details_tokens subject failed.causes) (words_tokens failed.message failed.reason)
    c.in_ok-write_head.ensures.tokens (c.in_ok-write_details.ensures.tokens ∙ causes) (is ∙ words)
    ∙ ap (λ ts. c.args.out.now.tokens ++ ts) (status_told subject failed))
    c.write_words.ensures.tokens
