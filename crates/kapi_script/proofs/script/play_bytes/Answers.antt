use Rattle.std.proofs.Common.{arith, ◌+◌, ◌++◌, drop}
use Rattle.kapi_script.proofs.Bytes.{byte_first, bytes_end, reads_failed}
use Rattle.kapi_script.proofs.script.play_bytes.Goals as goal

pub returns-in-Err-clause-goes : goal.returns-in-Err-clause-goes
returns-in-Err-clause-goes g c = λ all unread before h.
    let i = c.loop-byte.byte-index in
    let rest = drop (i + 1) c.args.bytes.now ++ unread in
    reads_failed all rest unread before c.play_byte.new.core c.play_byte.new.core c.play_byte.new.script c.play_byte.new.script _ c.in-Err.fault
    (c.in-Err.ensures.goes all rest before
    (byte_first all c.args.bytes.now unread before i c.loop-byte.core c.loop-byte.script _ c.loop-byte-test.true (c.loop-byte.invariant.0 all unread before h)))

pub loop-byte-preserved : goal.loop-byte-preserved
loop-byte-preserved g c =
    let i = c.loop-byte.byte-index in (
      (λ all unread before h.
          c.in-Ok.ensures.goes all (drop (i + 1) c.args.bytes.now ++ unread) before
          (byte_first all c.args.bytes.now unread before i c.loop-byte.core c.loop-byte.script _ c.loop-byte-test.true (c.loop-byte.invariant.0 all unread before h))),
      omega (arith, c.in-Ok.ensures.count, c.loop-byte.invariant.1),
    )

pub returns-clause-goes : goal.returns-clause-goes
returns-clause-goes g c = λ all unread before h.
    bytes_end all c.args.bytes.now unread before c.loop-byte.byte-index c.loop-byte.core c.loop-byte.script _ (omega (arith, c.loop-byte-test.false)) (c.loop-byte.invariant.0 all unread before h)
