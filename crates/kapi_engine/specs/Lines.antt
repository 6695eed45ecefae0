-- The line of a decision.
use Rattle.std.specs.Prelude.{ℕ, List, ◌++◌, Option, None, Some, codes}
use Rattle.kapi_policy.specs.Decided.{Decided}
use Rattle.kapi_reviews.specs.Answers.{reason_of}
use Rattle.kapi_lines.specs.Escapes.{escaped}

-- the line of a decision, by the reason that a review reports where it is allowed
abbrev pub reason_line : Option (List ℕ) → List ℕ
reason_line None = codes "denied\n"
reason_line (Some reason) = (codes "allowed " ++ escaped reason) ++ codes "\n"

-- the line of a decision
abbrev pub decision_line : Decided → List ℕ
decision_line d = reason_line (reason_of d)
