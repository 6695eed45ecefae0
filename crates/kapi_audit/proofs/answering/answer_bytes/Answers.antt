use Rattle.std.proofs.Common.{arith, ◌+◌, ◌++◌, drop}
use Rattle.kapi_audit.proofs.Telling.{byte_first, bytes_end}
use Rattle.kapi_audit.proofs.answering.answer_bytes.Goals as goal

pub loop-byte-preserved : goal.loop-byte-preserved
loop-byte-preserved g c = λ first all unread before h.
    let i = c.loop-byte.byte-index in
    c.in-Ok.ensures first all (drop (i + 1) c.args.bytes.now ++ unread) before
    (byte_first c.args.row.now first _ all c.args.bytes.now unread _ i before _ c.loop-byte-test.true (c.loop-byte.invariant first all unread before h))

pub returns : goal.returns
returns g c = λ first all unread before h.
    bytes_end c.args.row.now first _ all c.args.bytes.now unread _ c.loop-byte.byte-index before _ (omega (arith, c.loop-byte-test.false)) (c.loop-byte.invariant first all unread before h)
