use Rattle.std.proofs.Common.{arith}
use Rattle.std.proofs.lemmas.List.{length-take}
use Rattle.kapi.proofs.Short.{stays_short}
use Rattle.kapi.proofs.bounded_lines.BoundedLinesRead.read.Goals as goal

pub returns-clause-short : goal.returns-clause-short
returns-clause-short g c k below =
    let room = length-take c.room_in-room.result c.args.buffer.now in
    stays_short c.args.self.now.length k _ (omega (arith, below, room, c.if-self-gt-LINE_LIMIT.false, c.room_in-room.ensures.line, c.room_in-room.ensures.size, c.in_ok-count.ensures.bound))
