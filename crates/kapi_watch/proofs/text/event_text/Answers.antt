use Rattle.kapi_watch.proofs.Joined.{event_joined}
use Rattle.kapi_watch.proofs.text.event_text.Goals as goal

pub returns : goal.returns
returns c = λ d is.
    rw (c.in_ok-push.ensures.items, c.in_ok-extend_from_slice-4.ensures.items, c.in_ok-extend_from_slice-3.ensures.items, c.in_ok-extend_from_slice-2.ensures.items, c.in_ok-extend_from_slice.ensures.items, c.new-text.ensures.items)
    (rw (c.as_slice.ensures.value, c.in_ok-kind.ensures, is) (event_joined c.args.kind.now d))
