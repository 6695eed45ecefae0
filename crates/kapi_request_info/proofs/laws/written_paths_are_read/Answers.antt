use Rattle.kapi_request_info.proofs.Written.{info_path, info_both}
use Rattle.kapi_request_info.proofs.laws.written_paths_are_read.Goals as goal

pub returns : goal.returns
returns c = record { path = info_path; query = info_both }
