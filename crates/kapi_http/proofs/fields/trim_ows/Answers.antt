use Rattle.std.proofs.Common.{sym, ◌∙◌}
use Rattle.kapi_http.proofs.Lists.{trimmed_ends, trimmed_empty}
use Rattle.kapi_http.proofs.fields.trim_ows.Goals as goal

pub returns-then-not-is_white : goal.returns-then-not-is_white
returns-then-not-is_white c =
    trimmed_ends _ _ c.in-Some.front.now c.in-Some.last.now c.in-Some.ensures.cases.0
    (sym c.is_white.ensures ∙ c.if-not-is_white.true) c.loop-last.invariant

pub returns : goal.returns
returns c = trimmed_empty _ _ c.in_default.ensures.cases c.loop-last.invariant
