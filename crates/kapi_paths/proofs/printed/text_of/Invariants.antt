use Rattle.std.proofs.Common.{◌≡◌, ◌++◌, map, take}
use Rattle.std.specs.List.{flat_map}
use Rattle.kapi_paths.specs.Printed.{fence, wanted_text}
use Rattle.kapi_paths.specs.Rights.{row_of}
use Rattle.kapi_paths.proofs.printed.text_of.Given as goal

abbrev pub invariant-loop-path : goal.invariant-loop-path
invariant-loop-path g l =
    l.text.items
    ≡ fence l.form ++ flat_map (wanted_text (g.P.Policy.content l.asked.policy.now) l.asked.bindings.now l.asked.known.now (map row_of l.asked.rights.now) l.form l.to) (take l.path-index l.paths)
