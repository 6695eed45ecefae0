use Rattle.std.proofs.Common.{◌≡◌, true}
use Rattle.std.specs.Prelude.{string_bytes}
use Rattle.std.specs.List.{list_all}
use Rattle.kapi_loading.specs.Reasons.{is_shown}
use Rattle.kapi_loading.proofs.shown.one_line.Given as goal

abbrev pub invariant-loop-character : goal.invariant-loop-character
invariant-loop-character l = list_all is_shown (string_bytes l.line) ≡ true
