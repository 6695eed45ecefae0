use Rattle.kapi_core.specs.declared.event.Event.TheVariants as event
use Rattle.std.proofs.Common.{refl}
use Rattle.kapi_serve.proofs.Going.{goes_nothing, goes_out, goes_turned, goes_unturned}
use Rattle.kapi_serve.proofs.Tending.{passes_nothing, passes_out, passes_turned}
use Rattle.kapi_serve.proofs.publishing.Publishing.make_turn.Goals as goal

pub returns-then-self-eq0-clause-goes : goal.returns-then-self-eq0-clause-goes
returns-then-self-eq0-clause-goes g c = λ s. goes_nothing _

pub returns-then-self-clause-goes : goal.returns-then-self-clause-goes
returns-then-self-clause-goes g c = λ s. goes_nothing _

pub returns-then-not-is_free-clause-goes : goal.returns-then-not-is_free-clause-goes
returns-then-not-is_free-clause-goes g c = λ s. goes_nothing _

pub returns-in-Ok-Some-clause-goes : goal.returns-in-Ok-Some-clause-goes
returns-in-Ok-Some-clause-goes g c = λ s. goes_turned _ _ _ _ c.in-Ok-Some.field-0 c.in-Ok-Some.turned c.in-Ok-Some.ensures (cc) c.publish.ensures

pub returns-in-Ok-None-clause-goes : goal.returns-in-Ok-None-clause-goes
returns-in-Ok-None-clause-goes g c = λ s. goes_unturned _ _ c.in-Ok-None.field-0 c.in-Ok-None.ensures (cc)

pub returns-in-Err-clause-goes : goal.returns-in-Err-clause-goes
returns-in-Err-clause-goes g c = λ s. goes_out _ _ _ event.Turn c.in-Err.ensures refl

pub returns-then-self-eq0-clause-passes : goal.returns-then-self-eq0-clause-passes
returns-then-self-eq0-clause-passes g c = passes_nothing _

pub returns-then-self-clause-passes : goal.returns-then-self-clause-passes
returns-then-self-clause-passes g c = passes_nothing _

pub returns-then-not-is_free-clause-passes : goal.returns-then-not-is_free-clause-passes
returns-then-not-is_free-clause-passes g c = passes_nothing _

pub returns-in-Ok-Some-clause-passes : goal.returns-in-Ok-Some-clause-passes
returns-in-Ok-Some-clause-passes g c = passes_turned _ _ c.in-Ok-Some.field-0 c.in-Ok-Some.ensures

pub returns-in-Ok-None-clause-passes : goal.returns-in-Ok-None-clause-passes
returns-in-Ok-None-clause-passes g c = passes_turned _ _ c.in-Ok-None.field-0 c.in-Ok-None.ensures

pub returns-in-Err-clause-passes : goal.returns-in-Err-clause-passes
returns-in-Err-clause-passes g c = passes_out _ _ event.Turn c.in-Err.ensures
