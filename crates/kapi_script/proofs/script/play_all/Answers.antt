use Rattle.std.proofs.Common.{arith, refl, subst, ◌∙◌}
use Rattle.std.proofs.lemmas.List.{length-take}
use Rattle.kapi_script.specs.Private.Playing.{Reading}
use Rattle.kapi_script.proofs.Bytes.{read_some, read_none, on_ok, ends_failed}
use Rattle.kapi_script.proofs.script.play_all.Goals as goal

pub loop-init : goal.loop-init
loop-init g c = ((λ all unread before r h. (unread, r, h)), omega (arith, c.requires.lines), refl)

pub returns-then-count-eq0-clause-ends : goal.returns-then-count-eq0-clause-ends
returns-then-count-eq0-clause-ends g c = λ all unread before r h.
    let s = c.loop.invariant.0 all unread before r h in
    c.end_script.ensures all before
    (subst (λ u. Reading all u c.loop.core c.loop.script before (g.W.Write.contents c.loop.writer))
    (read_none _ _ s.0 c.read_into.new.buffer c.in_ok-count.count s.1 c.in_ok-count.ensures.bytes c.if-count-eq0.true (c.in_ok-count.ensures.end c.if-count-eq0.true)) s.2)

pub returns-then-count-eq0-clause-whole : goal.returns-then-count-eq0-clause-whole
returns-then-count-eq0-clause-whole g c = on_ok c.end_script.result _ (c.in_ok-count.ensures.end c.if-count-eq0.true)

pub returns-in-Err-clause-ends : goal.returns-in-Err-clause-ends
returns-in-Err-clause-ends g c = λ all unread before r h.
    let s = c.loop.invariant.0 all unread before r h in
    let t = read_some _ _ s.0 _ s.1 c.in_ok-count.ensures.bytes in
    ends_failed all t.0 before c.play_bytes.new.core c.play_bytes.new.script _ c.in-Err.fault
    (c.in-Err.ensures.goes all t.0 before (subst (λ u. Reading all u c.loop.core c.loop.script before (g.W.Write.contents c.loop.writer)) t.2 s.2))

pub loop-preserved : goal.loop-preserved
loop-preserved g c = (
  (λ all unread before r h.
      let s = c.loop.invariant.0 all unread before r h in
      let t = read_some _ _ s.0 _ s.1 c.in_ok-count.ensures.bytes in
      (t.0, t.1, c.in-Ok.ensures.goes all t.0 before (subst (λ u. Reading all u c.loop.core c.loop.script before (g.W.Write.contents c.loop.writer)) t.2 s.2))),
  omega (arith, length-take c.in_ok-count.count c.read_into.new.buffer, c.in-Ok.ensures.count, c.requires.size, c.in_ok-count.ensures.within, c.loop.invariant.1, c.loop.invariant.2),
  c.read_into.auto.buffer ∙ c.loop.invariant.2,
)
