use Rattle.std.proofs.Common.{List, ℕ, take, ◌+◌, sym, ap, subst, ◌∙◌, arith, Some, Ok, Err}
use Rattle.std.specs.Prelude.{IsUtf8}
use Rattle.kapi_http.specs.Cut.{fault_of}
use Rattle.kapi_http.specs.Tied.{told}
use Rattle.std.proofs.lemmas.List.{length-take}
use Rattle.kapi_http.specs.declared.message.HttpFault.{HttpFault}
use Rattle.kapi_http.specs.declared.message.HttpRequest.{HttpRequest}
use Rattle.kapi_http.proofs.Settling.{first_chunks, first_in_chunks, with_body}
use Rattle.kapi_http.proofs.item.chunked_item.Goals as goal

pub overflow_add-total : goal.overflow_add-total
overflow_add-total c =
    let fits = (first_chunks _ _ _ _ c.requires.parts c.requires.settled).within in omega (arith, fits, c.requires.small)

pub slice_bounds-join-end : goal.slice_bounds-join-end
slice_bounds-join-end c =
    let fits = (first_chunks _ _ _ _ c.requires.parts c.requires.settled).within in
    omega (arith, fits, length-take (c.args.head + c.args.chunks.at) c.args.kept.now)

pub slice_bounds-request-end : goal.slice_bounds-request-end
slice_bounds-request-end c =
    let fits = (first_chunks _ _ _ _ c.requires.parts c.requires.settled).within in omega (arith, fits, length-take c.args.head c.args.kept.now)

pub request-requires : goal.request-requires
request-requires c = (first_chunks _ _ _ _ c.requires.parts c.requires.settled).has

pub slice_bounds-of-end : goal.slice_bounds-of-end
slice_bounds-of-end c =
    let fits = (first_chunks _ _ _ _ c.requires.parts c.requires.settled).within in omega (arith, fits, length-take c.args.head c.args.kept.now)

pub of-requires-clause-ordered : goal.of-requires-clause-ordered
of-requires-clause-ordered c = (first_chunks _ _ _ _ c.requires.parts c.requires.settled).has.method.0

pub of-requires-clause-in_range : goal.of-requires-clause-in_range
of-requires-clause-in_range c = (first_chunks _ _ _ _ c.requires.parts c.requires.settled).has.method.1

pub fault-requires : goal.fault-requires
fault-requires c = subst IsUtf8 (sym c.of.ensures) (first_chunks _ _ _ _ c.requires.parts c.requires.settled).has.texts.method

pub returns-in-Open : goal.returns-in-Open
returns-in-Open c = sym (first_in_chunks _ _ _ _ _ c.requires.parts c.requires.settled (sym c.outcome.ensures ∙ c.in-Open.is))

pub returns-in_ok-request-in-Closed : goal.returns-in_ok-request-in-Closed
returns-in_ok-request-in-Closed c =
    ap (λ (r : HttpRequest). Some (Ok r)) (c.in_ok-request-in-Closed.ensures ∙ with_body (told (take c.args.head c.args.kept.now) c.args.parts.now) _ _ c.in_ok-body-in-Closed.ensures)
    ∙ sym (first_in_chunks _ _ _ _ _ c.requires.parts c.requires.settled (sym c.outcome.ensures ∙ c.in-Closed.is))

pub returns-in_ok-fault-in-Refused : goal.returns-in_ok-fault-in-Refused
returns-in_ok-fault-in-Refused c =
    ap (λ (f : HttpFault). Some (Err f)) (c.in_ok-fault-in-Refused.ensures ∙ ap (λ (m : List ℕ). fault_of m c.in-Refused.why) c.of.ensures)
    ∙ sym (first_in_chunks _ _ _ _ _ c.requires.parts c.requires.settled (sym c.outcome.ensures ∙ c.in-Refused.is))
