use Rattle.std.proofs.Common.{◌∙◌, ap, cond, Some}
use Rattle.std.specs.BTreeMap.{get, is_at}
use Rattle.std.specs.Cmp.Lexicographic.{slice_cmp}
use Rattle.std.specs.Ordering.{nat_cmp}
use Rattle.kapi_store.proofs.Matching.{noted}
use Rattle.kapi_store.proofs.matcher.Checks.note.Goals as goal

pub returns : goal.returns
returns c = λ v.
    noted c.args.value.now v c.args.passes c.args.self.now.others (get (slice_cmp nat_cmp) c.args.self.now.noted v) (get (slice_cmp nat_cmp) c.insert.new.self v)
    (c.in_ok-insert.ensures.updates.0 v
    ∙ ap (λ k. cond (is_at (slice_cmp nat_cmp k) v) (Some c.args.passes) (get (slice_cmp nat_cmp) c.args.self.now.noted v)) c.in_ok-copy.ensures)
