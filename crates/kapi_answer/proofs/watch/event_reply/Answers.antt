use Rattle.std.proofs.Common.{option_map, ap, sym, ◌∙◌}
use Rattle.kapi_watch.specs.Shown.{event_of}
use Rattle.kapi_answer.specs.Watch.{event_chunk}
use Rattle.kapi_answer.proofs.Watched.{model_of_object}
use Rattle.kapi_answer.proofs.watch.event_reply.Goals as goal

pub returns-in_ok-event_chunk-in-Some : goal.returns-in_ok-event_chunk-in-Some
returns-in_ok-event_chunk-in-Some c = λ history s w stands is.
    let e = event_of c.args.event.now in
    let object = c.in-Some.object.items in
    let text = ap (option_map (λ b. b.items)) (sym c.in-Some.is) ∙ c.in_ok-object.ensures in
    model_of_object s w e object c.new.result text
    (λ d same.
    c.new.ensures ∙ c.in_ok-event_chunk-in-Some.ensures d (c.deref.ensures.value ∙ same) ∙ ap (λ k. event_chunk k d) c.kind.ensures)

pub returns-in-None : goal.returns-in-None
returns-in-None c = λ history s w stands is.
    c.end_reply.ensures history s w stands is (ap (option_map (λ b. b.items)) (sym c.in-None.is) ∙ c.in_ok-object.ensures)
