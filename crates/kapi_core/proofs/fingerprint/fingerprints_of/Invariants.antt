use Rattle.std.proofs.Common.{◌≡◌, ◌++◌, drop}
use Rattle.std.specs.List.{flat_map, list_any}
use Rattle.kapi_core.specs.Fingerprints.{fingerprints, is_of_policy}
use Rattle.kapi_store.specs.Lent.{changes_of}
use Rattle.kapi_core.proofs.fingerprint.fingerprints_of.Given as goal

abbrev pub invariant-loop-index : goal.invariant-loop-index
invariant-loop-index l = (l.numbers.items ++ flat_map (λ c. fingerprints c.key) (drop l.index (changes_of l.changes)) ≡ flat_map (λ c. fingerprints c.key) (changes_of l.changes))
    × (list_any (λ c. is_of_policy c.key) (drop l.index (changes_of l.changes)) ≡ list_any (λ c. is_of_policy c.key) (changes_of l.changes))
