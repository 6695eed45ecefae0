use Rattle.std.proofs.Common.{◌≡◌, ◌+◌, All, length}
use Rattle.kapi_publishing.specs.Boards.{fresh, informed}
use Rattle.kapi_audit.specs.Private.Readers.{AreReaders}
use Rattle.kapi_audit.proofs.audit.told_readers.Given as goal

abbrev pub invariant-loop-seat : goal.invariant-loop-seat
invariant-loop-seat l =
    AreReaders (informed l.desk) 0 l.readers.items
    × All (λ s. s ≡ fresh l.desk) l.seats.items
    × (length l.readers.items + length l.seats.items ≡ length l.initial.seats.items)

abbrev pub decreases-loop-seat : goal.decreases-loop-seat
decreases-loop-seat l = length l.seats.items
