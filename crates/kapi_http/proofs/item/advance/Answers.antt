use Rattle.std.proofs.Common.{refl, sym, ap, ◌∙◌}
use Rattle.kapi_http.specs.Cut.{Finding}
use Rattle.kapi_http.specs.Inbox.{decision_of}
use Rattle.kapi_http.proofs.Settling.{read_to, ended_decision, ended_has_lines, settled_long, settled_short, read_all, kept_ended, kept_long, kept_short}
use Rattle.kapi_http.proofs.item.advance.Goals as goal

pub decide-decision-requires-clause-lines : goal.decide-decision-requires-clause-lines
decide-decision-requires-clause-lines c =
    let read = read_to _ _ _ _ c.requires.read c.requires.within c.requires.limit c.min-end.ensures c.scan_on-scan.ensures.exact in
    ended_has_lines _ _ read (sym c.has_ended.ensures ∙ c.if-has_ended.true)

pub returns-then-has_ended-clause-decided : goal.returns-then-has_ended-clause-decided
returns-then-has_ended-clause-decided c =
    let read = read_to _ _ _ _ c.requires.read c.requires.within c.requires.limit c.min-end.ensures c.scan_on-scan.ensures.exact in
    c.decide-decision.ensures.decided ∙ ended_decision _ _ read (sym c.has_ended.ensures ∙ c.if-has_ended.true)

pub returns-then-kept-ge-HEAD_LIMIT-clause-decided :
    goal.returns-then-kept-ge-HEAD_LIMIT-clause-decided
returns-then-kept-ge-HEAD_LIMIT-clause-decided c =
    let read = read_to _ _ _ _ c.requires.read c.requires.within c.requires.limit c.min-end.ensures c.scan_on-scan.ensures.exact in
    ap (λ (f : Finding). decision_of f c.args.kept.now) (sym (settled_long _ _ read (sym c.has_ended.ensures ∙ c.if-has_ended.false) c.if-kept-ge-HEAD_LIMIT.true))

pub returns-else-kept-ge-HEAD_LIMIT-clause-decided :
    goal.returns-else-kept-ge-HEAD_LIMIT-clause-decided
returns-else-kept-ge-HEAD_LIMIT-clause-decided c =
    let read = read_to _ _ _ _ c.requires.read c.requires.within c.requires.limit c.min-end.ensures c.scan_on-scan.ensures.exact in
    ap (λ (f : Finding). decision_of f c.args.kept.now) (sym (settled_short _ _ read (sym c.has_ended.ensures ∙ c.if-has_ended.false) c.if-kept-ge-HEAD_LIMIT.false))

pub returns-else-kept-ge-HEAD_LIMIT-clause-read : goal.returns-else-kept-ge-HEAD_LIMIT-clause-read
returns-else-kept-ge-HEAD_LIMIT-clause-read c e =
    let read = read_to _ _ _ _ c.requires.read c.requires.within c.requires.limit c.min-end.ensures c.scan_on-scan.ensures.exact in
    read_all _ _ read (sym c.has_ended.ensures ∙ c.if-has_ended.false) c.if-kept-ge-HEAD_LIMIT.false

pub returns-then-has_ended-clause-parts : goal.returns-then-has_ended-clause-parts
returns-then-has_ended-clause-parts c =
    let read = read_to _ _ _ _ c.requires.read c.requires.within c.requires.limit c.min-end.ensures c.scan_on-scan.ensures.exact in
    kept_ended _ _ _ read (sym c.has_ended.ensures ∙ c.if-has_ended.true) c.decide-decision.ensures.parts

pub returns-then-kept-ge-HEAD_LIMIT-clause-parts : goal.returns-then-kept-ge-HEAD_LIMIT-clause-parts
returns-then-kept-ge-HEAD_LIMIT-clause-parts c =
    let read = read_to _ _ _ _ c.requires.read c.requires.within c.requires.limit c.min-end.ensures c.scan_on-scan.ensures.exact in
    kept_long _ _ _ read (sym c.has_ended.ensures ∙ c.if-has_ended.false) c.if-kept-ge-HEAD_LIMIT.true refl

pub returns-else-kept-ge-HEAD_LIMIT-clause-parts : goal.returns-else-kept-ge-HEAD_LIMIT-clause-parts
returns-else-kept-ge-HEAD_LIMIT-clause-parts c =
    let read = read_to _ _ _ _ c.requires.read c.requires.within c.requires.limit c.min-end.ensures c.scan_on-scan.ensures.exact in
    kept_short _ _ _ read (sym c.has_ended.ensures ∙ c.if-has_ended.false) c.if-kept-ge-HEAD_LIMIT.false
