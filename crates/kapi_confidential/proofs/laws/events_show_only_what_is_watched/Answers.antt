use Rattle.kapi_confidential.proofs.Watching.{events_alike}
use Rattle.kapi_confidential.proofs.laws.events_show_only_what_is_watched.Goals as goal

pub returns : goal.returns
returns c w objects other s t history changes rechecks alike = events_alike w objects other s t history changes alike rechecks
