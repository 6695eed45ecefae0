use Rattle.std.proofs.Common.{◌∙◌, ap, sym, refl}
use Rattle.kapi_missing.proofs.Entered.{pushed}
use Rattle.kapi_missing.specs.Private.Once.{is_in}
use Rattle.kapi_missing.proofs.rows.push_new.Goals as goal

pub returns-in_ok-push : goal.returns-in_ok-push
returns-in_ok-push c = λ words were has.
    pushed c.args.list c.args.parts.now.items _ _ c.args.seen.now c.add_word.new.seen words c.args.word.now
    (ap (is_in c.args.seen.now) (sym c.as_str.ensures) ∙ sym c.has_word.ensures ∙ c.if-not-has_word.true) c.in_ok-push.ensures.items refl
    (rw (← c.as_str-then-not-has_word.ensures) c.in_ok-add_word.ensures) were has
