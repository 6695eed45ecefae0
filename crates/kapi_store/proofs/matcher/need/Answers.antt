use Rattle.std.proofs.Common.{◌∙◌, ap, sym}
use Rattle.std.specs.BTreeSet.{insert_key}
use Rattle.std.specs.Cmp.Lexicographic.{slice_cmp}
use Rattle.std.specs.Ordering.{nat_cmp}
use Rattle.kapi_store.proofs.Matching.{needed_more}
use Rattle.kapi_store.proofs.matcher.need.Goals as goal

pub returns-in_ok-insert : goal.returns-in_ok-insert
returns-in_ok-insert c = λ at.
    needed_more at c.args.keys.now.keys c.insert.new.self.keys c.args.requirement.now (sym c.needs_key.ensures ∙ c.if-needs_key.true)
    (c.in_ok-insert.ensures.keys ∙ ap (insert_key (slice_cmp nat_cmp) c.args.keys.now.keys) c.in_ok-copy.ensures)
