use Rattle.std.proofs.Common.{◌≡◌, ◌+◌, ◌≤◌, length}
use Rattle.kapi_http.specs.Scan.{scanned}
use Rattle.kapi_http.proofs.scan.scan_on.Given as goal

abbrev pub invariant-loop-unread : goal.invariant-loop-unread
invariant-loop-unread l =
    (scanned l.state l.unread ≡ scanned l.fn.scan l.bytes)
    × (l.state.lines ≤ l.state.at)
    × (l.state.at + length l.unread ≤ l.fn.scan.at + length l.bytes)

abbrev pub decreases-loop-unread : goal.decreases-loop-unread
decreases-loop-unread l = length l.unread
