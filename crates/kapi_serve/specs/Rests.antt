-- When nothing can be done for a client before its slot reports something.
use Rattle.std.specs.Prelude.{◌≡◌, ◌<◌, true, false, List, [], length}
use Rattle.std.specs.List.{AllByRecursion}
use Rattle.kapi_core.specs.Machine.{Machine, step}
use Rattle.kapi_core.specs.declared.event.Answer.TheVariants as answer
use Rattle.kapi_core.specs.declared.event.ConnId.{ConnId}
use Rattle.kapi_core.specs.declared.event.Event.TheVariants as event
use Rattle.kapi_serve.specs.declared.client.Client.{Client}
use Rattle.kapi_serve.specs.declared.client.Phase.TheVariants as phase
use Rattle.kapi_serve.specs.Private.Pieces.{owed}

-- the machine answers nothing on a connection: each whole request was answered, or its watch runs, or it is closed
abbrev pub IsAnswered : Machine → ConnId → Type 0
IsAnswered m conn = (step m (event.Serve conn)).0 ≡ answer.Nothing

-- what a client is owed was offered to its slot, which takes no more now; if less than a mebibyte is owed, its
-- requests are answered, and it was closed if its bytes have ended; a closed one is there while its slot takes no bytes
pub record Rests (m : Machine) (c : Client) : Type 0 where
  pub offered : c.blocked ≡ false → owed c.pending ≡ []
  pub answered : length (owed c.pending) < 1048576 → IsAnswered m c.id
  pub ended : length (owed c.pending) < 1048576 → c.phase ≡ phase.Ending → ⊥
  pub closed : c.phase ≡ phase.Closed → c.blocked ≡ true

-- all clients rest
abbrev pub AreAtRest : Machine → List Client → Type 0
AreAtRest m clients = AllByRecursion (λ c. Rests m c) clients
