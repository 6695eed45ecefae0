use Rattle.std.proofs.Common.{◌≡◌, drop, map}
use Rattle.std.specs.List.{find}
use Rattle.kapi_paths.specs.Printed.{leads}
use Rattle.kapi_paths.specs.Rights.{row_of}
use Rattle.kapi_paths.proofs.printed.first_right.Given as goal

abbrev pub invariant-loop-right : goal.invariant-loop-right
invariant-loop-right g l =
    find (leads l.asked.known.now l.place l.to l.rule) (map row_of (drop l.right-index l.right-items))
    ≡ find (leads l.asked.known.now l.place l.to l.rule) (map row_of l.asked.rights.now)
