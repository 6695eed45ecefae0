use Rattle.std.specs.Prelude.{refl}
use Rattle.kapi_confidential.proofs.Worked.{gets_pods, seen_alike, written_alike}
use Rattle.kapi_confidential.proofs.laws.a_secret_is_not_seen.Goals as goal

pub returns : goal.returns
returns c = record { differ = (refl, refl); gets = gets_pods; seen = seen_alike; written = written_alike }
