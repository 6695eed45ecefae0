use Rattle.std.proofs.Common.{ℕ, ◌+◌, List, Option, map}
use Rattle.kapi_audit.specs.Private.Sharing.{AreShares}
use Rattle.kapi_audit.proofs.Shares.{Gathering}
use Rattle.kapi_audit.proofs.gathering.gather.Given as goal

abbrev pub invariant-loop-line : goal.invariant-loop-line
invariant-loop-line l = (answer : List ℕ → Option (List ℕ)) (others : ℕ) → AreShares 0 (others + 1) others (map (λ l. answer l.text.now) l.lines) l.shares
    → Gathering answer others l.lines l.line-index (map (λ s. s.now) l.left.items) l.text.items
