use Rattle.std.proofs.Common.{sym, ap, ◌∙◌}
use Rattle.kapi_script.specs.Private.Playing.{wants_memory}
use Rattle.kapi_script.proofs.Lines.{line_told}
use Rattle.kapi_script.proofs.script.play.Goals as goal

pub returns : goal.returns
returns g c =
    let event = line_told c.args.line.now (sym c.is_empty.ensures ∙ c.if-is_empty.false) c.if-line-eq35.false (c.in-Err-Memory.ensures.none ∙ ap wants_memory c.in-Err-Memory.field-0-is) in
    (event.0, event.1, λ m stands. stands)
