use Rattle.std.proofs.Common.{ap, arith, length, length-drop}
use Rattle.kapi_http.proofs.Decided.{scanned_none}
use Rattle.kapi_http.proofs.inbox.Inbox.keep_behind.Goals as goal

pub overflow_add-start : goal.overflow_add-start
overflow_add-start c =
    let kept = ap (λ u. length u.kept) c.self.view_is in
    omega (arith, c.requires, kept, length-drop c.self.inside.start c.self.inside.bytes.items, c.self.inside.bytes.ok.0, c.self.invariant.fits)

pub drain-requires-clause-in_bounds : goal.drain-requires-clause-in_bounds
drain-requires-clause-in_bounds c =
    let kept = ap (λ u. length u.kept) c.self.view_is in
    omega (arith, c.requires, kept, length-drop c.self.inside.start c.self.inside.bytes.items, c.self.inside.bytes.ok.0)

pub advance-self-inside-requires-clause-read : goal.advance-self-inside-requires-clause-read
advance-self-inside-requires-clause-read c = scanned_none
