use Rattle.std.proofs.Common.{◌<◌, length-set, refl, subst, sym}
use Rattle.kapi_serve.proofs.Going.{ends_at, goes_nothing, goes_on, goes_visited, goes_written}
use Rattle.kapi_serve.proofs.Tending.{made_not_still, on_both, on_left, on_tended, tends_nothing, tends_on, visits_made, visits_passed, visits_tended}
use Rattle.kapi_serve.proofs.server.Server.visit.Goals as goal

pub returns-then-not-is_awake-clause-goes : goal.returns-then-not-is_awake-clause-goes
returns-then-not-is_awake-clause-goes g c = goes_nothing _

pub returns-then-is_over-clause-goes : goal.returns-then-is_over-clause-goes
returns-then-is_over-clause-goes g c =
    let items = c.args.self.now.clients.list.items in
    let i = c.args.index in
    let f = c.flush-flushed.new.self in
    goes_on _ _ _ (goes_written _ _ _ items i c.index_mut-client.result.now f (c.if-not-is_awake.ensures.bound refl) c.index_mut-client.ensures.value refl refl c.flush-flushed.ensures.writes)
    (ends_at _ _ _ _ i _ _ f c.end.ensures (subst (λ n. i < n) (sym (length-set items i f)) (c.if-not-is_awake.ensures.bound refl)) refl refl)

pub returns-in-Sent-clause-goes : goal.returns-in-Sent-clause-goes
returns-in-Sent-clause-goes g c =
    goes_visited _ _ _ _ _ _ c.args.self.now.clients.list.items c.args.index c.index_mut-client.result.now c.flush-flushed.new.self c.answer-answered.new.client (c.if-not-is_awake.ensures.bound refl) c.index_mut-client.ensures.value refl refl
    c.flush-flushed.ensures.writes c.answer-answered.ensures.goes

pub returns-in-Nothing-clause-goes : goal.returns-in-Nothing-clause-goes
returns-in-Nothing-clause-goes g c =
    goes_visited _ _ _ _ _ _ c.args.self.now.clients.list.items c.args.index c.index_mut-client.result.now c.flush-flushed.new.self c.answer-answered.new.client (c.if-not-is_awake.ensures.bound refl) c.index_mut-client.ensures.value refl refl
    c.flush-flushed.ensures.writes c.answer-answered.ensures.goes

pub returns-in-Failed-clause-goes : goal.returns-in-Failed-clause-goes
returns-in-Failed-clause-goes g c =
    goes_visited _ _ _ _ _ _ c.args.self.now.clients.list.items c.args.index c.index_mut-client.result.now c.flush-flushed.new.self c.answer-answered.new.client (c.if-not-is_awake.ensures.bound refl) c.index_mut-client.ensures.value refl refl
    c.flush-flushed.ensures.writes c.answer-answered.ensures.goes

pub returns-then-not-is_awake-clause-visits : goal.returns-then-not-is_awake-clause-visits
returns-then-not-is_awake-clause-visits g c = visits_passed _ _ _ _ _ (c.if-not-is_awake.ensures.quiet refl)

pub returns-then-is_over-clause-visits : goal.returns-then-is_over-clause-visits
returns-then-is_over-clause-visits g c =
    let d = c.index_mut-client.result.now in
    let below = c.if-not-is_awake.ensures.bound refl in
    let i = c.args.index in
    let f = c.flush-flushed.new.self in
    visits_made _ _ _ _ _ _ _ _ made_not_still
    (on_both _ _ _ _ _ _ _ _ _ (on_tended _ _ _ _ c.args.index d c.flush-flushed.new.self below c.requires c.index_mut-client.ensures.value (tends_nothing _ d _ c.flush-flushed.ensures.keeps))
    (on_left _ _ _ _ _ _ i f (subst (λ n. i < n) (sym (length-set c.args.self.now.clients.list.items i f)) below) c.end.ensures))

pub returns-in-Sent-clause-visits : goal.returns-in-Sent-clause-visits
returns-in-Sent-clause-visits g c =
    let d = c.index_mut-client.result.now in
    let below = c.if-not-is_awake.ensures.bound refl in
    visits_made _ _ _ _ _ _ _ _ made_not_still
    (on_tended _ _ _ _ c.args.index d _ below c.requires c.index_mut-client.ensures.value (tends_on _ _ _ _ _ _ (tends_nothing _ d _ c.flush-flushed.ensures.keeps) c.answer-answered.ensures.tends))

pub returns-in-Nothing-clause-visits : goal.returns-in-Nothing-clause-visits
returns-in-Nothing-clause-visits g c =
    let d = c.index_mut-client.result.now in
    let below = c.if-not-is_awake.ensures.bound refl in
    visits_tended _ _ _ _ c.args.index d c.flush-flushed.new.self _ _ below c.requires c.index_mut-client.ensures.value
    (tends_on _ _ _ _ _ _ (tends_nothing _ d _ c.flush-flushed.ensures.keeps) c.answer-answered.ensures.tends) c.answer-answered.ensures.still
    (c.flush-flushed.ensures.offered c.in-Nothing.is) (c.is_over.ensures.left c.if-is_over.false)

pub returns-in-Failed-clause-visits : goal.returns-in-Failed-clause-visits
returns-in-Failed-clause-visits g c =
    let d = c.index_mut-client.result.now in
    let below = c.if-not-is_awake.ensures.bound refl in
    visits_tended _ _ _ _ c.args.index d c.flush-flushed.new.self _ _ below c.requires c.index_mut-client.ensures.value
    (tends_on _ _ _ _ _ _ (tends_nothing _ d _ c.flush-flushed.ensures.keeps) c.answer-answered.ensures.tends) c.answer-answered.ensures.still
    (absurd (c.is_over.ensures.whole c.if-is_over.false c.in-Failed.is)) (c.is_over.ensures.left c.if-is_over.false)
