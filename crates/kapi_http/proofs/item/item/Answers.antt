use Rattle.std.proofs.Common.{List, ℕ, take, sym, ap, subst, ◌∙◌, arith, Some, Ok, Err}
use Rattle.std.specs.Prelude.{IsUtf8}
use Rattle.kapi_http.specs.Cut.{fault_of}
use Rattle.kapi_http.specs.Tied.{told}
use Rattle.std.proofs.lemmas.List.{length-take}
use Rattle.kapi_http.specs.declared.message.HttpFault.{HttpFault}
use Rattle.kapi_http.specs.declared.message.HttpRequest.{HttpRequest}
use Rattle.kapi_http.proofs.Settling.{first_waits, first_refused, refused_first, first_accepted, accepted_first, accepted_waits, with_body}
use Rattle.kapi_http.proofs.item.item.Goals as goal

pub slice_bounds-of-end : goal.slice_bounds-of-end
slice_bounds-of-end c =
    let fits = (first_refused _ _ _ _ c.requires.parts (sym c.in-Refused.is ∙ c.requires.settled)).head_within in
    omega (arith, fits, length-take c.in-Refused.head c.args.kept.now)

pub of-requires-clause-ordered : goal.of-requires-clause-ordered
of-requires-clause-ordered c = (first_refused _ _ _ _ c.requires.parts (sym c.in-Refused.is ∙ c.requires.settled)).within.0

pub of-requires-clause-in_range : goal.of-requires-clause-in_range
of-requires-clause-in_range c = (first_refused _ _ _ _ c.requires.parts (sym c.in-Refused.is ∙ c.requires.settled)).within.1

pub fault-requires : goal.fault-requires
fault-requires c =
    subst IsUtf8 (sym c.of.ensures) (first_refused _ _ _ _ c.requires.parts (sym c.in-Refused.is ∙ c.requires.settled)).text

pub returns-then-kept-total : goal.returns-then-kept-total
returns-then-kept-total c =
    sym (accepted_waits _ _ _ _ c.requires.parts (sym c.in-Accepted.is ∙ c.requires.settled) c.if-kept-total.true)

pub request-requires : goal.request-requires
request-requires c = (first_accepted _ _ _ _ c.requires.parts (sym c.in-Accepted.is ∙ c.requires.settled)).has

pub returns-in-Waits : goal.returns-in-Waits
returns-in-Waits c = sym (first_waits _ (sym c.in-Waits.is ∙ c.requires.settled))

pub returns-in_ok-fault-in-Refused : goal.returns-in_ok-fault-in-Refused
returns-in_ok-fault-in-Refused c =
    ap (λ (f : HttpFault). Some (Err f)) (c.in_ok-fault-in-Refused.ensures ∙ ap (λ (m : List ℕ). fault_of m c.in-Refused.why) c.of.ensures)
    ∙ sym (refused_first _ _ _ _ c.requires.parts (sym c.in-Refused.is ∙ c.requires.settled))

pub returns-in_ok-request-in-Accepted : goal.returns-in_ok-request-in-Accepted
returns-in_ok-request-in-Accepted c =
    ap (λ (r : HttpRequest). Some (Ok r)) (c.in_ok-request-in-Accepted.ensures ∙ with_body (told (take c.in-Accepted.head c.args.kept.now) c.args.parts.now) _ _ c.in_ok-body-in-Accepted.ensures.items)
    ∙ sym (accepted_first _ _ _ _ c.requires.parts (sym c.in-Accepted.is ∙ c.requires.settled) c.if-kept-total.false)
