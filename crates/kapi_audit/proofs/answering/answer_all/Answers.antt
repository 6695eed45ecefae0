use Rattle.std.proofs.Common.{[], refl, subst, ◌∙◌}
use Rattle.kapi_script.specs.Scripts.{lines}
use Rattle.kapi_script.proofs.Bytes.{read_some, read_none}
use Rattle.kapi_audit.specs.Private.Reading.{Reading}
use Rattle.kapi_audit.proofs.Telling.{at_start, last_line}
use Rattle.kapi_audit.proofs.answering.answer_all.Goals as goal

pub loop-init : goal.loop-init
loop-init g c = ((λ text r. (text, r, at_start c.args.row.now c.args.seat.now text _ _ c.new-line.ensures.items)), refl)

pub returns-then-count-eq0-clause-told : goal.returns-then-count-eq0-clause-told
returns-then-count-eq0-clause-told g c = λ text r.
    let s = c.loop.invariant.0 text r in
    let before = g.W.Write.contents c.args.writer.now in
    c.answer_line.ensures c.args.seat.now (lines text) [] before
    (last_line c.args.row.now c.args.seat.now c.loop.seat (lines text) _ c.loop.line.items before _ c.as_slice.ensures.value
    (subst (λ u. Reading c.args.row.now c.args.seat.now (lines text) u c.loop.line.items c.loop.seat before (g.W.Write.contents c.loop.writer))
    (read_none _ _ s.0 c.read_into.new.buffer c.in_ok-count.count s.1 c.in_ok-count.ensures.bytes c.if-count-eq0.true (c.in_ok-count.ensures.end c.if-count-eq0.true)) s.2))

pub loop-preserved : goal.loop-preserved
loop-preserved g c = (
  (λ text r.
      let s = c.loop.invariant.0 text r in
      let t = read_some _ _ s.0 _ s.1 c.in_ok-count.ensures.bytes in
      let before = g.W.Write.contents c.args.writer.now in (
        t.0,
        t.1,
        c.in-Ok.ensures c.args.seat.now (lines text) t.0 before
            (subst (λ u. Reading c.args.row.now c.args.seat.now (lines text) u c.loop.line.items c.loop.seat before (g.W.Write.contents c.loop.writer)) t.2 s.2),
      )),
  c.read_into.auto.buffer ∙ c.loop.invariant.1,
)
