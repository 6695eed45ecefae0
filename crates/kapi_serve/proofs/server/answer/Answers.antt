use Rattle.kapi_serve.proofs.Going.{goes_nothing, goes_on}
use Rattle.kapi_serve.proofs.Tending.{answered_still, keeps_nothing, tends_by, tends_nothing, tends_on}
use Rattle.kapi_serve.proofs.server.answer.Goals as goal

pub returns-then-is_much-clause-goes : goal.returns-then-is_much-clause-goes
returns-then-is_much-clause-goes g c = λ front back. goes_nothing _

pub returns-then-is_much-clause-tends : goal.returns-then-is_much-clause-tends
returns-then-is_much-clause-tends g c = tends_nothing _ _ _ (keeps_nothing _)

pub returns-clause-goes : goal.returns-clause-goes
returns-clause-goes g c = λ front back. goes_on _ _ _ (goes_on _ _ _ (c.serve-served.ensures.goes front back) (c.pump-shown.ensures.goes front back)) (c.make_turns-turned.ensures.goes _)

pub returns-clause-tends : goal.returns-clause-tends
returns-clause-tends g c = tends_by _ _ _ _ _ (tends_on _ _ _ _ _ _ c.serve-served.ensures.tends c.pump-shown.ensures.tends) c.make_turns-turned.ensures.passes

pub returns-clause-still : goal.returns-clause-still
returns-clause-still g c = answered_still _ _ _ _ _ _ _ _ c.and.ensures c.and-2.ensures c.serve-served.ensures.still c.pump-shown.ensures.still
