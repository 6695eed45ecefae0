use Rattle.std.proofs.Common.{refl}
use Rattle.std.proofs.lemmas.Bool.{ne_eqb}
use Rattle.kapi_script.specs.Scripts.{lines}
use Rattle.kapi_script.proofs.Bytes.{byte_pushed, line_ends, line_begins, line_failed}
use Rattle.kapi_script.proofs.script.play_byte.Goals as goal

pub returns-in-Ok-clause-goes : goal.returns-in-Ok-clause-goes
returns-in-Ok-clause-goes g c = λ all unread before h.
    line_begins all unread before c.clear.new.self.items _ c.play_line.new.core _ c.clear.ensures.items
    (c.in-Ok.ensures all (lines unread) before
    (line_ends all c.args.byte unread before c.as_slice.result.now c.args.core.now c.args.script.now _ c.if-byte-ne10.false c.as_slice.ensures.value h))

pub returns-in-Err-clause-goes : goal.returns-in-Err-clause-goes
returns-in-Err-clause-goes g c = λ all unread before h.
    line_failed all (lines unread) unread before _ c.play_line.new.core c.args.script.now _ c.play_line.result c.in-Err.fault c.in-Err.is
    (c.play_line.ensures all (lines unread) before
    (line_ends all c.args.byte unread before c.as_slice.result.now c.args.core.now c.args.script.now _ c.if-byte-ne10.false c.as_slice.ensures.value h))

pub returns-then-byte-ne10-clause-goes : goal.returns-then-byte-ne10-clause-goes
returns-then-byte-ne10-clause-goes g c = λ all unread before h.
    byte_pushed all c.args.byte unread before _ c.args.script.now (record c.args.script.now { line = c.push.new.line }) _ c.push.result
    (ne_eqb c.args.byte 10 c.if-byte-ne10.true) refl c.push.ensures.pushed c.push.ensures.fault h
