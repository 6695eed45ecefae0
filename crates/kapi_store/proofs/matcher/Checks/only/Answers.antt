use Rattle.std.proofs.Common.{◌≡◌, ◌∙◌, ◌+◌, ◌&&◌, ◌||◌, ap, arith, bytes_eq, take}
use Rattle.std.proofs.lemmas.Grind.{common_steps}
use Rattle.std.proofs.lemmas.Slice.Eq.{bytes_eq-Decides}
use Rattle.kapi_model.specs.Selector.{is_listed}
use Rattle.kapi_store.specs.Private.Matching.{passes}
use Rattle.kapi_store.proofs.Matching.{only_more}
use Rattle.kapi_store.proofs.matcher.Checks.only.Goals as goal

pub loop-value-preserved : goal.loop-value-preserved
loop-value-preserved c = λ v.
    let value = c.value-item.result in
    let before = is_listed (take c.loop-value.value-index c.args.listed.now) v in
    let more : (before || bytes_eq value v) ≡ is_listed (take (c.loop-value.value-index + 1) c.args.listed.now) v = grind (arith, common_steps) in
    only_more (bytes_eq value v) before (passes c.args.self.now v) c.passes.result (passes c.loop-value.checks v) (passes c.note.new.self v)
    (λ yes. c.passes.ensures ∙ ap (passes c.args.self.now) ((bytes_eq-Decides value v).0 yes)) (c.loop-value.invariant v) (c.in_ok-note.ensures v)
    ∙ ap (λ b. b && passes c.args.self.now v) more
