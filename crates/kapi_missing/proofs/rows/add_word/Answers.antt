use Rattle.std.proofs.Common.{◌∙◌, true, cond, ap}
use Rattle.std.proofs.lemmas.Map.Text.{is_eq-slice_cmp}
use Rattle.std.specs.Str.{bytes_eq}
use Rattle.kapi_text.proofs.Booleans.{cond_or}
use Rattle.kapi_missing.specs.Private.Once.{is_in}
use Rattle.kapi_missing.proofs.rows.add_word.Goals as goal

pub returns : goal.returns
returns c = λ w.
    c.in_ok-insert.ensures.updates.0 (record c.args.word { now = w }) ∙ ap (λ b. cond b true (is_in c.args.seen.now w)) (is_eq-slice_cmp c.args.word.now w)
    ∙ cond_or (bytes_eq c.args.word.now w) (is_in c.args.seen.now w)
