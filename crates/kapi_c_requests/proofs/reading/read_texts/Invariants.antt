use Rattle.kapi_c_requests.specs.Questions.{passed_text}
use Rattle.kapi_c_requests.proofs.Going.{Going}
use Rattle.kapi_c_requests.proofs.reading.read_texts.Given as goal

-- the texts so far are read
abbrev pub invariant-loop-text : goal.invariant-loop-text
invariant-loop-text l = Going passed_text l.passed l.text-index l.texts.items
