-- What clap says of a parse of Kapi's command line, at each way out.
use Rattle.std.proofs.Common.{inl, inr, refl}
use Rattle.kapi_command_line.proofs.Parsed.{asked_of, faultless, names_of, shown_at, wrong_at, wrong_of}
use Rattle.kapi_command_line.proofs.command_line.command.Goals as goal

pub returns-in-Ok-clause-named : goal.returns-in-Ok-clause-named
returns-in-Ok-clause-named c =
    let asks = asked_of _ _ c.in-Ok.matches c.in_ok-program.ensures c.in-Ok.ensures.kinds c.in-Ok.ensures.matches in
    names_of _ c.in-Ok.matches c.asked.result asks c.asked.ensures

pub returns-in-Ok-clause-wrong : goal.returns-in-Ok-clause-wrong
returns-in-Ok-clause-wrong c =
    let asks = asked_of _ _ c.in-Ok.matches c.in_ok-program.ensures c.in-Ok.ensures.kinds c.in-Ok.ensures.matches in
    wrong_of _ c.in-Ok.matches c.asked.result asks (faultless _ _ c.in_ok-program.ensures c.in-Ok.ensures.kinds) c.asked.ensures

pub returns-in_default : goal.returns-in_default
returns-in_default c = record {
  named = tt;
  wrong = λ _. wrong_at _ _ _ _ c.in_ok-program.ensures c.kind.ensures c.in-Err.ensures.kinds c.in_default.not-DisplayHelp c.in_default.not-DisplayVersion c.in_default.not-OutOfMemory;
}

pub returns-in-DisplayHelp-clause-named : goal.returns-in-DisplayHelp-clause-named
returns-in-DisplayHelp-clause-named c =
    shown_at _ _ _ _ c.in_ok-program.ensures c.kind.ensures c.in-Err.ensures.kinds (elim c.in-DisplayHelp.is [
      | inl e ↦ rw e refl
      | inr e ↦ rw e refl
    ])
