use Rattle.std.proofs.Common.{◌≡◌, ℕ, List, ◌++◌, codes, ap, ◌∙◌}
use Rattle.kapi_http.specs.ChunkText.{last_chunk}
use Rattle.kapi_answer.specs.Watch.{event_chunk}
use Rattle.kapi_answer.specs.declared.watch.After.{After}
use Rattle.kapi_answer.specs.declared.watch.EventReply.{EventReply}
use Rattle.kapi_answer.proofs.watch.ended_reply.Goals as goal

abbrev reply_of : List ℕ → After → EventReply
reply_of bytes after = record { bytes = bytes; after = after }

pub returns : goal.returns
returns c = λ d is.
    let all : c.new.result ≡ event_chunk (codes "ERROR") d ++ last_chunk =
    c.new.ensures ∙ c.in_ok-extend_from_slice.ensures.items
    ∙ ap (λ b. b ++ c.deref.result.now) (c.in_ok-bytes.ensures d is)
    ∙ ap (λ t. event_chunk (codes "ERROR") d ++ t) (c.deref.ensures.value ∙ c.in_ok-write_end.ensures) in
    ap (λ b. reply_of b c.after_end.result) all
    ∙ ap (λ a. reply_of (event_chunk (codes "ERROR") d ++ last_chunk) a) c.after_end.ensures
