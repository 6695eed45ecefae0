-- The readers of an audit.
use Rattle.std.specs.Prelude.{◌≡◌, ℕ, ◌+◌, List, [], ◌∷◌}
use Rattle.kapi_publishing.specs.Boards.{Chair}
use Rattle.kapi_audit.specs.declared.reader.Reader.{Reader}

-- the numbers of the readers go on from n, and each sits in such a seat
unfoldable pub AreReaders : Chair → ℕ → List Reader → Type 0
AreReaders seat n [] = Unit {0}
AreReaders seat n (r ∷ rs) = (r.number ≡ n) × (r.seat ≡ seat) × AreReaders seat (n + 1) rs
