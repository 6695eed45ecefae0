use Rattle.std.proofs.Common.{[], ◌∷◌}
use Rattle.std.proofs.lemmas.List.Elements.{at_read}
use Rattle.kapi_core.specs.Refines.{Makes}
use Rattle.kapi_core.specs.declared.event.Answer.TheVariants as answer
use Rattle.kapi_core.specs.declared.event.Event.TheVariants as event
use Rattle.kapi_serve.specs.Ports.{Adds}
use Rattle.kapi_serve.specs.declared.port.Entry.TheVariants as entry
use Rattle.kapi_serve.proofs.clients.Clients.end.Goals as goal

pub returns : goal.returns
returns g c =
    let items = c.args.self.now.list.items in
    let left = c.remove-client in
    record {
      list = left.ensures.items;
      awake = c.lower.ensures;
      closes = at_read items (λ z. Makes c.args.core.now c.close.new.self (event.Close z.id) answer.Done) c.args.index left.result c.requires left.ensures.value c.close.ensures;
      adds = at_read items (λ z. Adds (g.Q.Ports.report c.args.ports.now) (g.Q.Ports.report c.end.new.self) (entry.Ended z.slot ∷ [])) c.args.index left.result c.requires left.ensures.value c.end.ensures.told;
    }
