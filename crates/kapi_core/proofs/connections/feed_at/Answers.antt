use Rattle.std.proofs.Common.{◌≡◌, ◌∙◌, ◌++◌, ◌+◌, ◌≤◌, false, length, sym, ap, subst, Result, OnOk, OnErr}
use Rattle.std.specs.Option.{option_copied_mut}
use Rattle.kapi_http.specs.declared.inbox.FeedError.{FeedError}
use Rattle.kapi_core.proofs.Feeding.{fed_from, memory_fits}
use Rattle.kapi_core.proofs.connections.feed_at.Goals as goal
use Rattle.kapi_core.specs.Limits.{kept_limit}

pub returns-in-Some : goal.returns-in-Some
returns-in-Some c =
    let was = c.in-Some.connection.now in
    let u = c.feed.new.self in
    let piece = c.args.piece.now in
    let Taken : Result (Unit {0}) FeedError → Type 0 = λ r. OnOk r (u ≡ record { kept = was.inbox.kept ++ piece; ended = false }) in
    let Fitting : Result (Unit {0}) FeedError → Type 0 = λ r. OnOk r (length was.inbox.kept + length piece ≤ kept_limit) in
    let Unchanged : Result (Unit {0}) FeedError → Type 0 = λ r. OnErr r (u ≡ was.inbox) in
    fed_from c.args.connections.now.entries (c.get_mut.follows.lender (record { identity = was.identity; inbox = u; watching = was.watching })).entries c.args.id piece was u c.feed.result
    (sym c.get_mut.ensures.value ∙ ap option_copied_mut c.in-Some.is)
    (c.get_mut.follows.holds (record { identity = was.identity; inbox = u; watching = was.watching })).0
    (λ done e. (subst Taken e c.feed.ensures.ok, subst Fitting e c.feed.ensures.fits))
    (λ error e. subst Unchanged e c.feed.ensures.err)
    (λ e. c.feed.ensures.ended.0 e)
    (λ e. (c.feed.ensures.full.0 e).1)
    (memory_fits c.feed.result was.inbox.ended (length was.inbox.kept + length piece) c.feed.ensures.ended.1 c.feed.ensures.full.1)
