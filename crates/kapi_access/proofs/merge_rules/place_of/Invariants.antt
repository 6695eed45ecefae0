use Rattle.std.proofs.Common.{◌≡◌, ◌+◌, drop}
use Rattle.kapi_access.specs.Together.{place_of}
use Rattle.kapi_access.proofs.merge_rules.place_of.Given as goal

abbrev pub invariant-loop-first : goal.invariant-loop-first
invariant-loop-first l = record {
  counted : l.place ≡ l.first-index;
  left : l.place + place_of l.part (drop l.first-index l.rules) l.rule ≡ place_of l.part l.rules l.rule;
}
