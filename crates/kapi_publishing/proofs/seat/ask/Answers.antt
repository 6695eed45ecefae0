use Rattle.kapi_publishing.proofs.Keeps.{enters}
use Rattle.kapi_publishing.proofs.seat.ask.Goals as goal

pub enter_as-requires : goal.enter_as-requires
enter_as-requires c x = enters _ _ x
