use Rattle.kapi_loading.proofs.Begun.{core_fault, no_seat}
use Rattle.kapi_loading.proofs.starting.load_into.Goals as goal

pub returns-in_err-load_file : goal.returns-in_err-load_file
returns-in_err-load_file c = λ m stands. core_fault c.from_residual.result c.in_err-load_file.field-0.0 _ c.from_residual.ensures.1 (c.in_err-load_file.ensures no_seat m stands tt)

pub returns : goal.returns
returns c = λ m stands.
    let h = c.in_ok-load_file.ensures no_seat m stands tt in
    (h.0, h.1, h.2)
