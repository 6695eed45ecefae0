use Rattle.std.proofs.Common.{Ok, ap, map, subst, ◌∙◌}
use Rattle.kapi_text.specs.ResultIs.{Fails}
use Rattle.kapi_lines.specs.Lines.{line_of}
use Rattle.kapi_loading.specs.Faults.{model_of_fault}
use Rattle.kapi_loading.specs.Loading.{Reaches, loaded, turned}
use Rattle.kapi_loading.proofs.Loaded.{fault_kept, reach_fault, then_turned}
use Rattle.kapi_loading.proofs.loading.load_file.Goals as goal

pub returns-in_err-load_lines : goal.returns-in_err-load_lines
returns-in_err-load_lines g c = λ seat m stands follows.
    let same = ap (map line_of) c.as_slice.ensures.value ∙ c.in_ok-lines.ensures in
    reach_fault c.load_lines.new.core (g.S.Steps.Follows seat c.load_lines.new.steps) c.from_residual-in_err-load_lines.result c.in_err-load_lines.field-0.0 _ c.from_residual-in_err-load_lines.ensures.1
    (fault_kept _ _ (λ k. Ok (turned 64 k))
    (subst (λ ls. Fails (model_of_fault c.in_err-load_lines.field-0.0) (loaded m ls)) same (c.in_err-load_lines.ensures seat m stands follows)))

pub returns : goal.returns
returns g c = λ seat m stands follows.
    let same = ap (map line_of) c.as_slice.ensures.value ∙ c.in_ok-lines.ensures in
    then_turned c.load_lines.new.core c.make_turns.new.core (g.S.Steps.Follows seat c.load_lines.new.steps) (g.S.Steps.Follows seat c.make_turns.new.steps) c.make_turns.result m _
    (subst (λ ls. Reaches c.load_lines.new.core (g.S.Steps.Follows seat c.load_lines.new.steps) (Ok tt) (loaded m ls)) same (c.in_ok-load_lines.ensures seat m stands follows))
    (λ k stands follows. c.make_turns.ensures seat k stands follows)
