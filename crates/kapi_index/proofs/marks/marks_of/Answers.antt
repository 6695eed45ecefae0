use Rattle.std.proofs.Common.{◌≡◌}
use Rattle.std.specs.Int.{bit_at}
use Rattle.kapi_index.specs.Marks.{place_of}
use Rattle.kapi_index.proofs.Places.{marked_more}
use Rattle.kapi_index.proofs.marks.marks_of.Goals as goal

pub loop-word-preserved : goal.loop-word-preserved
loop-word-preserved c =
    let set : bit_at c.with_mark-marks.result (place_of c.word-item.result) ≡ 1 =
    rw (← c.as_str.ensures, ← c.as_bytes.ensures.value, ← c.place.ensures.value) c.with_mark-marks.ensures.set in
    marked_more c.loop-word.marks _ c.args.words.now c.loop-word.word-index c.word-item.result c.loop-word-test.true c.word-item.is c.loop-word.invariant c.with_mark-marks.ensures.kept set
