use Rattle.std.proofs.Common.{◌≡◌, drop, find, map}
use Rattle.serde_json.specs.View.{view}
use Rattle.kapi_kinds.specs.Rows.{is_served}
use Rattle.kapi_kinds.proofs.forms.served_of.Given as goal

abbrev pub invariant-loop-version : goal.invariant-loop-version
invariant-loop-version l = find is_served (map view (drop l.version-index l.versions)) ≡ find is_served (map view l.versions)
