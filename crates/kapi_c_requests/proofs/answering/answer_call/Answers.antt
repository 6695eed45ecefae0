use Rattle.kapi_c_requests.specs.Answers.{failed, given_of}
use Rattle.kapi_c_requests.proofs.answering.answer_call.Goals as goal

pub returns : goal.returns
returns c = (
  c.in-Err.ensures.0,
  failed c.in-Err.fault,
  c.refused.ensures.status,
  c.refused.ensures.answer (given_of c.in-Err.ensures.0 c.args.loaded.now c.args.call.now) c.args.room.now c.in-Err.ensures.1,
  tt,
)
