use Rattle.std.proofs.Common.{◌≡◌, ◌+◌, ◌≤◌, ◌++◌, length, drop}
use Rattle.kapi_http.specs.Chunks.{joined, no_chunks}
use Rattle.kapi_http.proofs.chunks.join.Given as goal

abbrev pub invariant-loop-byte : goal.invariant-loop-byte
invariant-loop-byte l =
    (l.found.items ++ joined l.state (drop l.byte-index l.bytes) ≡ joined no_chunks l.bytes)
    × (l.state.sum ≤ l.state.at)
    × (l.state.at + length (drop l.byte-index l.bytes) ≤ length l.bytes)
