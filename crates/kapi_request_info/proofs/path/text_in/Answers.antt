use Rattle.std.proofs.Common.{◌≡◌, List, ℕ, Some, false, ap, ⊎_elim}
use Rattle.std.specs.Str.{IsUtf8, is_utf8}
use Rattle.std.proofs.lemmas.Bool.{cases_Bool}
use Rattle.std.proofs.lemmas.Str.{is_utf8-from_IsUtf8, IsUtf8-from_is_utf8}
use Rattle.kapi_request_info.proofs.path.text_in.Goals as goal

not_utf8 : (bs : List ℕ) → ¬ (IsUtf8 bs) → is_utf8 bs ≡ false
not_utf8 bs h = ⊎_elim (λ e. absurd (h (IsUtf8-from_is_utf8 bs e))) (λ e. e) (cases_Bool (is_utf8 bs))

pub returns-in-Ok : goal.returns-in-Ok
returns-in-Ok c = rw (is_utf8-from_IsUtf8 c.args.bytes.now c.in-Ok.ensures.cases.1) (ap Some c.in-Ok.ensures.cases.0)

pub returns-in-Err : goal.returns-in-Err
returns-in-Err c = rw (not_utf8 c.args.bytes.now c.in-Err.ensures.cases.0)
