-- Bytes in pieces.
use Rattle.std.specs.Prelude.{◌≡◌, ◌≤◌, ℕ, List, [], ◌∷◌, ◌++◌, drop, length}
use Rattle.kapi_serve.specs.declared.pending.Pending.{Pending}

-- the bytes of pieces in their order
abbrev pub joined : List (List ℕ) → List ℕ
joined [] = []
joined (piece ∷ pieces) = piece ++ joined pieces

-- the bytes that are yet to be sent
abbrev pub owed : Pending → List ℕ
owed p = drop p.sent p.head ++ joined p.behind.items

-- all bytes were sent
abbrev pub IsSent : Pending → Type 0
IsSent p = (length p.head ≤ p.sent) × (p.behind.items ≡ [])

-- no more bytes are counted than are yet to be sent
abbrev pub IsCounted : Pending → Type 0
IsCounted p = p.count ≤ length (owed p)
