use Rattle.std.proofs.Common.{◌≡◌, ◌∙◌, sym}
use Rattle.kapi_rules.proofs.Covers.{same}
use Rattle.kapi_missing.proofs.Counted.{class_at}
use Rattle.kapi_missing.proofs.tree.known.Goals as goal

pub returns-then-eq : goal.returns-then-eq
returns-then-eq c = λ all lists are.
    let e : c.as_slice.result.now ≡ c.args.rules.now = same c.as_slice.result.now c.args.rules.now (sym c.eq.ensures ∙ c.if-eq.true) in
    rw (← e, c.as_slice.ensures.value) (class_at all lists c.args.classes.now c.loop-class.class-index c.class-item.result are c.loop-class-test.true c.class-item.is)
