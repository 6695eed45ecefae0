use Rattle.kapi_http.proofs.Decided.{first_stays, first_positive}
use Rattle.kapi_http.proofs.Items.{first_fits}
use Rattle.kapi_http.proofs.laws.items_stay.Goals as goal

pub returns-clause-stays : goal.returns-clause-stays
returns-clause-stays c = first_stays

pub returns-clause-some : goal.returns-clause-some
returns-clause-some c = first_positive

pub returns-clause-within : goal.returns-clause-within
returns-clause-within c = first_fits
