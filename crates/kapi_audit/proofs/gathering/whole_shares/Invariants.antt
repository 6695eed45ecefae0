use Rattle.std.proofs.Common.{◌≡◌, map, take}
use Rattle.kapi_audit.proofs.gathering.whole_shares.Given as goal

abbrev pub invariant-loop-share : goal.invariant-loop-share
invariant-loop-share l = map (λ s. s.now) l.whole.items ≡ take l.share-index l.shares
