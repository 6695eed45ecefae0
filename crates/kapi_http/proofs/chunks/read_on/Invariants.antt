use Rattle.std.proofs.Common.{◌≡◌, ◌+◌, ◌≤◌, length, drop}
use Rattle.kapi_http.specs.Chunks.{chunked}
use Rattle.kapi_http.proofs.chunks.read_on.Given as goal

abbrev pub invariant-loop-byte : goal.invariant-loop-byte
invariant-loop-byte l =
    (chunked l.state (drop l.byte-index l.bytes) ≡ chunked l.fn.chunks l.bytes)
    × (l.state.sum ≤ l.state.at)
    × (l.state.at + length (drop l.byte-index l.bytes) ≤ l.fn.chunks.at + length l.bytes)
