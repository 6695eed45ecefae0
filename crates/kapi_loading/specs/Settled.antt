-- Policies whose aggregated cluster roles have their unions (Kubernetes, 'Using RBAC Authorization', 'Aggregated ClusterRoles').
use Rattle.std.specs.Prelude.{Bool, true, false}
use Rattle.kapi_core.specs.Machine.{Machine, step}
use Rattle.kapi_core.specs.declared.event.Answer.{Answer}
use Rattle.kapi_core.specs.declared.event.Answer.TheVariants as told
use Rattle.kapi_core.specs.declared.event.Event.TheVariants as event

-- an answer says that nothing was done
abbrev pub is_nothing : Answer → Bool
is_nothing told.Nothing = true
is_nothing _ = false

-- no turn of a machine is due
abbrev pub is_settled : Machine → Bool
is_settled m = is_nothing (step m event.Turn).0
