-- Opening objects as data, and the store that a machine has.
use Rattle.std.specs.Prelude.{◌≡◌}
use Rattle.kapi_aggregation.specs.Marks.{Covers, Tracked}
use Rattle.kapi_aggregation.specs.Roles.{roles_in}
use Rattle.kapi_policy.specs.Objects.{PolicyObjects}
use Rattle.kapi_store.specs.Plain.{RefinesPlain}
use Rattle.kapi_store.specs.State.{State}
use Rattle.kapi_core.specs.Machine.{Machine, policy_of}
use Rattle.kapi_core.specs.Opening.{OpeningObject}
use Rattle.kapi_core.specs.Table.{row_of}
use Rattle.kapi_core.specs.declared.opening.OpeningObject.{OpeningObject as Declared}

-- an opening object as data
abbrev pub opening_data : Declared → OpeningObject
opening_data o = record { row = row_of o.resource; name = o.name.now; body = o.body.now }

-- the store and the policy are the machine's, with its history, and the marks cover its cluster roles
abbrev pub Holds : State → PolicyObjects → Tracked → Machine → Type 0
Holds s objects marks m = RefinesPlain s m.changes m.store × (objects ≡ policy_of m) × Covers marks (roles_in m.store.objects)
