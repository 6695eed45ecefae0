use Rattle.std.proofs.Common.{◌≡◌, ◌∙◌, ap, set, sym, refl, true, Err, inl, inr}
use Rattle.std.proofs.lemmas.List.{get_or_default}
use Rattle.std.proofs.lemmas.List.Elements.{at_read}
use Rattle.kapi_core.specs.Refines.{Makes, TakesIn}
use Rattle.kapi_core.specs.declared.event.Answer.TheVariants as answer
use Rattle.kapi_core.specs.declared.event.Event.TheVariants as event
use Rattle.kapi_serve.proofs.Going.{adds_nothing}
use Rattle.kapi_serve.proofs.Tending.{on_both, on_fed, on_left, on_refused}
use Rattle.kapi_serve.proofs.clients.Clients.feed.Goals as goal

pub returns-in-Ok-clause-feeds : goal.returns-in-Ok-clause-feeds
returns-in-Ok-clause-feeds g c =
    let items = c.args.self.now.list.items in
    let i = c.args.index in
    let d = c.index_mut.result.now in
    inl (record {
      list = at_read items (λ z. set items i (record d { fed = true }) ≡ set items i (record z { fed = true })) i d c.requires.bound c.index_mut.ensures.value refl;
      feeds = at_read items (λ z. Makes c.args.core.now c.feed.new.self (event.Feed z.id c.args.piece.now) answer.Done) i c.index.result.now c.requires.bound c.index.ensures c.in-Ok.ensures;
      adds = adds_nothing _;
    })

pub returns-in-Err-clause-feeds : goal.returns-in-Err-clause-feeds
returns-in-Err-clause-feeds g c = inr (record {
  between = c.feed.new.self;
  refused = c.in-Err._refused;
  takes = at_read c.args.self.now.list.items (λ z. TakesIn c.args.core.now c.feed.new.self z.id c.args.piece.now (Err c.in-Err._refused)) c.args.index c.index.result.now c.requires.bound c.index.ensures c.in-Err.ensures;
  ends = c.end.ensures;
})

pub returns-in-Ok-clause-stands : goal.returns-in-Ok-clause-stands
returns-in-Ok-clause-stands g c = λ has.
    let items = c.args.self.now.list.items in
    let d = c.index_mut.result.now in
    let e = c.index.result.now in
    on_fed _ _ items _ c.args.index d e.id c.args.piece.now c.requires.bound c.index_mut.ensures.value
    (ap (λ z. z.id) (c.index.ensures ∙ get_or_default items c.args.index e d c.requires.bound ∙ sym c.index_mut.ensures.value)) has (c.requires.reading d) c.in-Ok.ensures

pub returns-in-Err-clause-stands : goal.returns-in-Err-clause-stands
returns-in-Err-clause-stands g c = λ has.
    on_both _ _ _ _ _ _ _ _ _ (on_refused _ _ _ _ c.index.result.now.id c.args.piece.now c.in-Err._refused c.in-Err.ensures) (on_left _ _ _ _ _ _ c.args.index c.index.result.now c.requires.bound c.end.ensures)
