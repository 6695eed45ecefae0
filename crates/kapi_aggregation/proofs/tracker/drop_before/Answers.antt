use Rattle.std.proofs.Common.{ℕ, List, ◌∙◌, ap, rules}
use Rattle.std.proofs.lemmas.Fn.{filter_same}
use Rattle.std.specs.Cmp.Lexicographic.{slice_cmp}
use Rattle.std.specs.Ordering.{is_le, nat_cmp}
use Rattle.kapi_aggregation.specs.Marks.{marks_from}
use Rattle.kapi_aggregation.proofs.tracker.drop_before.Goals as goal

pub returns-in-Err : goal.returns-in-Err
returns-in-Err c =
    filter_same _ (λ (name : List ℕ). is_le (slice_cmp nat_cmp c.args.first.now name)) _ (λ x b f k. search rules) _ _ c.retain.ensures.filtered
    ∙ ap (λ ns. marks_from ns c.args.first.now) c.in-Err.ensures.err
