use Rattle.kapi_confidential.proofs.Reading.{reads_alike}
use Rattle.kapi_confidential.proofs.laws.reads_show_only_what_may_be_read.Goals as goal

pub returns : goal.returns
returns c = reads_alike
