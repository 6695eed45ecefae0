use Rattle.std.proofs.Common.{◌≡◌, take}
use Rattle.std.specs.List.{fold}
use Rattle.kapi_core.specs.Fingerprints.{fnv_step}
use Rattle.kapi_core.proofs.fingerprint.continued.Given as goal

abbrev pub invariant-loop-byte : goal.invariant-loop-byte
invariant-loop-byte l = l.hash ≡ fold fnv_step l.initial.hash (take l.byte-index l.text)
