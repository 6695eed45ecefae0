use Rattle.std.proofs.Common.{◌∙◌, ◌&&◌, ap, cond, Some}
use Rattle.std.specs.BTreeMap.{get, is_at}
use Rattle.std.specs.Cmp.Lexicographic.{slice_cmp}
use Rattle.std.specs.Ordering.{nat_cmp}
use Rattle.kapi_model.specs.Selector.{holds}
use Rattle.kapi_store.proofs.Matching.{checked, narrowed_at}
use Rattle.kapi_store.proofs.matcher.narrow.Goals as goal

pub returns : goal.returns
returns c = λ q v.
    narrowed_at c.args.requirement.now c.args.keys.now c.remove.new.self c.insert.new.self c.in_ok-narrowed.narrowed q v (c.remove.ensures.updates.0 q)
    (c.in_ok-insert.ensures.updates.0 q
    ∙ ap (λ k. cond (is_at (slice_cmp nat_cmp k) q) (Some c.in_ok-narrowed.narrowed) (get (slice_cmp nat_cmp) c.remove.new.self q)) c.in_ok-copy.ensures)
    (c.in_ok-narrowed.ensures v
    ∙ ap (λ b. holds c.args.requirement.now.operator c.args.requirement.now.values (Some v) && b) (c.or_all-checks.ensures v ∙ ap (λ o. checked o v) c.remove.ensures.value))
