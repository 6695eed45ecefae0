use Rattle.kapi_access.proofs.Behind.{Answering}
use Rattle.kapi_access.proofs.lines.answer_lines.Given as goal

-- the lines so far are answered
abbrev pub invariant-loop-line : goal.invariant-loop-line
invariant-loop-line g l = Answering l.form (g.P.Policy.content l.policy) l.lines l.line-index l.text.items
