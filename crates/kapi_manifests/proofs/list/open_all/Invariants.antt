use Rattle.std.proofs.Common.{◌≡◌, ◌++◌, map, option_map}
use Rattle.kapi_manifests.specs.Files.{all_opened, data_of}
use Rattle.kapi_manifests.proofs.list.open_all.Given as goal

-- what was opened so far, and what the others stand for
abbrev pub invariant-loop-manifest : goal.invariant-loop-manifest
invariant-loop-manifest l = option_map (λ rest. map data_of l.all.items ++ rest) (all_opened (map data_of l.manifest-iterator.rest.items)) ≡ all_opened (map data_of l.fn.manifests.items)
