use Rattle.std.proofs.Common.{refl}
use Rattle.std.proofs.lemmas.Bool.{false≢true}
use Rattle.kapi_serve.proofs.clients.Clients.add.Goals as goal

pub returns-clause-fresh : goal.returns-clause-fresh
returns-clause-fresh c = (_, c.push_reserved.ensures.items, refl, record { quiet = record { phase = refl; fed = λ less. refl; shown = λ less h. absurd (false≢true h); owed = λ free. c.new.ensures.owed }; counted = c.new.ensures.counted; unwatched = refl })
