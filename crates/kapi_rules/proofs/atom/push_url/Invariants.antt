use Rattle.std.proofs.Common.{◌≡◌, ◌++◌, List, ℕ, map, take}
use Rattle.kapi_rules.specs.Atoms.{url_atom}
use Rattle.kapi_rules.proofs.atom.push_url.Given as goal

abbrev pub invariant-loop-verb : goal.invariant-loop-verb
invariant-loop-verb l = l.list.items ≡ l.initial.list.items ++ map (λ (verb : List ℕ). url_atom verb l.url) (take l.verb-index l.verb-items)
