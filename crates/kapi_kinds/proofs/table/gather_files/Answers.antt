use Rattle.std.proofs.Common.{◌≡◌, ◌∙◌, [], drop, sym}
use Rattle.std.proofs.lemmas.List.{drop_all}
use Rattle.kapi_kinds.proofs.Grown.{files_next, grown_none}
use Rattle.kapi_kinds.proofs.table.gather_files.Goals as goal

pub loop-text-preserved : goal.loop-text-preserved
loop-text-preserved c =
    files_next (λ text. text.now) _ _ _ c.args.files.now c.loop-text.text-index _ c.loop-text-test.true c.loop-text.invariant c.in_ok-gather_file.ensures

pub returns : goal.returns
returns c =
    let none : drop c.loop-text.text-index c.args.files.now ≡ [] = drop_all c.loop-text.text-index c.args.files.now c.loop-text-test.false in
    let all = rw none at c.loop-text.invariant in
    sym (grown_none _) ∙ all
