use Rattle.std.proofs.Common.{◌≡◌, [], ◌∷◌, ◌++◌, drop, ap, sym, subst, ◌∙◌}
use Rattle.left_right.specs.Sides.{view as view_of}
use Rattle.kapi_publishing.specs.Pages.{opening_in, steps_in}
use Rattle.kapi_publishing.specs.Private.Stages.{IsPublishedTo}
use Rattle.kapi_publishing.specs.declared.version.Operation.TheVariants.{Step}
use Rattle.kapi_publishing.proofs.Stages.{idle_at, steps_one}
use Rattle.kapi_publishing.proofs.desk.Desk.take.Goals as goal

pub invariant_of-self : goal.invariant_of-self
invariant_of-self c =
    let idle = idle_at _ _ _ _ c.self.invariant.1 (ap (λ b. b.waiting) c.self.view_is ∙ c.requires) in
    let waiting = c.in-Ok.ensures.pending ∙ ap (λ l. l ++ Step c.args.step ∷ []) idle.0 ∙ ap (λ s. Step s ∷ []) (sym c.of-about.ensures) in
    subst (λ d. IsPublishedTo (view_of d.place) d.shown.value c.self.inside.book × ((drop c.append.new.self.behind c.append.new.self.log.items ≡ Step c.of-about.result.value ∷ []) × (c.self.inside.book.pages ≡ d.shown.value.pages.log)))
    (sym c.in-Ok.ensures.desk)
    (c.self.invariant.0, (waiting, idle.1))

pub returns-in-Ok : goal.returns-in-Ok
returns-in-Ok c =
    let idle = idle_at _ _ _ _ c.self.invariant.1 (ap (λ b. b.waiting) c.self.view_is ∙ c.requires) in
    let waiting = steps_one _ _ (c.in-Ok.ensures.pending ∙ ap (λ l. l ++ Step c.args.step ∷ []) idle.0) in
    let desk = c.in-Ok.ensures.desk in
    let book = ap (λ d. d.shown.value.pages.book) desk ∙ ap (λ b. b.desk) c.self.view_is in
    let opening = ap (λ d. opening_in d.shown.value.pages.log) desk ∙ ap (λ b. b.opening) c.self.view_is in
    let list = ap (λ d. steps_in d.shown.value.pages.log) desk ∙ ap (λ b. b.list) c.self.view_is in
    λ i. record { desk = book i; opening = opening i; list = list i; waiting = waiting i }
