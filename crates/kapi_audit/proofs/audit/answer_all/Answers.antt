use Rattle.std.proofs.Common.{◌∙◌, ◌+◌, ◌-◌, ◌≡◌, length, map, rules, subst, sym}
use Rattle.kapi_core.specs.Table.{access_reviews_row}
use Rattle.kapi_audit.specs.Answers.{answer_of}
use Rattle.kapi_publishing.specs.Steps.{after}
use Rattle.kapi_audit.specs.Private.Sharing.{AreShares}
use Rattle.kapi_model.specs.declared.row.ResourceRow.{ResourceRow}
use Rattle.kapi_audit.proofs.audit.answer_all.Goals as goal

pub returns : goal.returns
returns g c = λ seat are.
    let others = c.len-others.result - 1 in
    let count : length c.args.readers.items ≡ others + 1 = search rules in
    let found = c.in_ok-shares.ensures seat are in
    let on = subst (λ (r : ResourceRow). AreShares 0 (length c.args.readers.items) others (map (λ l. answer_of r (after seat.opening seat.seen) l.text.now) c.args.lines.now) c.in_ok-shares.shares.items) (c.in_ok-row.ensures ∙ c.access_reviews.ensures) found in
    let all = subst (λ n. AreShares 0 n others (map (λ l. answer_of access_reviews_row (after seat.opening seat.seen) l.text.now) c.args.lines.now) c.in_ok-shares.shares.items) count on in
    let given = subst (λ s. AreShares 0 (others + 1) others (map (λ l. answer_of access_reviews_row (after seat.opening seat.seen) l.text.now) c.args.lines.now) s) (sym c.as_slice.ensures.value) all in
    c.gather.ensures (answer_of access_reviews_row (after seat.opening seat.seen)) others given
