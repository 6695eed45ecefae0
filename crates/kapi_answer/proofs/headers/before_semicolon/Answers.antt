use Rattle.std.proofs.Common.{◌==◌, ◌∙◌, sym}
use Rattle.kapi_answer.proofs.Semicolons.{before_found, before_nothing}
use Rattle.kapi_answer.proofs.headers.before_semicolon.Goals as goal

pub returns-in-Some : goal.returns-in-Some
returns-in-Some c = c.split_at.ensures.front ∙ before_found (λ b. b == 59) c.args.value.now c.in-Some.at (sym c.in-Some.ensures.found)

pub returns-in-None : goal.returns-in-None
returns-in-None c = before_nothing (λ b. b == 59) c.args.value.now (sym c.in-None.ensures.found)
