use Rattle.std.proofs.Common.{refl}
use Rattle.kapi_request_info.proofs.OnLiterals.{info_on_literals}
use Rattle.kapi_request_info.proofs.worked.worked_rows.Goals as goal

pub returns : goal.returns
unfolding info_on_literals
returns c = record {
  status = refl;
  watch = refl;
  collection = refl;
  group = refl;
  absolute = refl;
  empty = refl;
  slash = refl;
  path_first = refl;
  escape = refl;
  query = refl;
}
