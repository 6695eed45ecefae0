use Rattle.std.proofs.Common.{◌∙◌, ap, arith, length, length-append, rules}
use Rattle.kapi_audit.proofs.Seats.{front_all, no_readers, readers_more}
use Rattle.kapi_audit.proofs.audit.told_readers.Goals as goal

pub loop-seat-init : goal.loop-seat-init
loop-seat-init c = (no_readers _ _ c.new-readers.ensures.items, c.requires.seats, (let none = ap length c.new-readers.ensures.items in omega (arith, none)))

pub loop-seat-preserved : goal.loop-seat-preserved
loop-seat-preserved c =
    let inv = c.loop-seat.invariant in
    let told = c.told_reader-reader.ensures in (
      readers_more _ c.loop-seat.readers.items _ _ _ inv.0 told.0 (search rules) told.1 c.in_ok-push.ensures.items,
      front_all _ _ _ _ c.in-Some.ensures.items inv.1,
      (let pushed = ap length c.in_ok-push.ensures.items ∙ length-append c.loop-seat.readers.items _ in
          let popped = ap length c.in-Some.ensures.items ∙ length-append c.pop.new.self.items _ in
          let before = inv.2 in omega (arith, pushed, popped, before)),
    )
