use Rattle.std.proofs.lemmas.Bool.{ne_eqb}
use Rattle.kapi_script.specs.Scripts.{lines}
use Rattle.kapi_audit.proofs.Telling.{byte_pushed, line_begins, line_ends}
use Rattle.kapi_audit.proofs.answering.answer_byte.Goals as goal

pub returns-in-Ok : goal.returns-in-Ok
returns-in-Ok g c = λ first all unread before h.
    line_begins c.args.row.now first _ all unread _ before _ c.clear.ensures.items
    (c.in-Ok.ensures first all (lines unread) before
    (line_ends c.args.row.now first _ all c.args.byte unread _ _ before _ c.if-byte-ne10.false c.as_slice.ensures.value h))

pub returns-then-byte-ne10 : goal.returns-then-byte-ne10
returns-then-byte-ne10 g c = λ first all unread before h.
    byte_pushed c.args.row.now first _ all c.args.byte unread _ _ before _ c.push.result (ne_eqb c.args.byte 10 c.if-byte-ne10.true) c.push.ensures h
