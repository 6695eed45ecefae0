use Rattle.std.proofs.Common.{◌≡◌, take}
use Rattle.std.specs.List.{flat_map}
use Rattle.kapi_transcripts.specs.Loads.{names_in}
use Rattle.kapi_transcripts.proofs.loads.loaded_names.Given as goal

abbrev pub invariant-loop-case : goal.invariant-loop-case
invariant-loop-case l = l.names.items ≡ flat_map names_in (take l.case-index l.case-items)
