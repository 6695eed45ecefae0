use Rattle.std.proofs.Common.{◌≡◌, map}
use Rattle.std.specs.Prelude.{take}
use Rattle.kapi_policy.specs.Views.{decision_of}
use Rattle.kapi_engine.specs.Decisions.{decided_on}
use Rattle.kapi_engine.proofs.loaded_policy.LoadedPolicy.decide_each.Given as goal

abbrev pub invariant-loop-question : goal.invariant-loop-question
invariant-loop-question l = map decision_of l.decisions.items ≡ map (decided_on l.self.policy) (take l.question-index l.questions)
