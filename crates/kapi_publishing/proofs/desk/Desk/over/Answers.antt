use Rattle.std.proofs.Common.{◌∙◌, ap, length, sym}
use Rattle.kapi_publishing.specs.Pages.{opening_in, steps_in}
use Rattle.kapi_publishing.specs.Steps.{after}
use Rattle.kapi_publishing.specs.declared.version.Version.{Version}
use Rattle.kapi_publishing.proofs.Keeps.{begins}
use Rattle.kapi_publishing.proofs.Lists.{after_none}
use Rattle.kapi_publishing.proofs.Stages.{stands_first}
use Rattle.kapi_publishing.proofs.desk.Desk.over.Goals as goal

pub new-requires-clause-rule : goal.new-requires-clause-rule
new-requires-clause-rule g c =
    let first : Version = record { policy = c.args.policy; steps = 0; pages = c.pages-pages.result } in
    let log = c.pages-pages.ensures.1 ∙ c.open-book.ensures in
    begins first (sym (after_none c.args.policy) ∙ sym (λ i. after (opening_in (log i)) (steps_in (log i))), ap length log)

pub with-requires-clause-stands : goal.with-requires-clause-stands
with-requires-clause-stands g c =
    let first : Version = record { policy = c.args.policy; steps = 0; pages = c.pages-pages.result } in
    let log = c.pages-pages.ensures.1 ∙ c.open-book.ensures in
    let opened = c.in_ok-writer.ensures in
    stands_first _ _ _ first c.open-book.result opened.0 opened.1 c.in_ok-new.ensures.0
    (sym (after_none c.args.policy) ∙ sym (λ i. after (opening_in (log i)) (steps_in (log i))), ap length log)
    (sym c.pages-pages.ensures.0)
