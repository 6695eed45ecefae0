-- Responses and answers as data.
use Rattle.std.specs.Prelude.{◌≡◌, List, [], map, Option, None, Some, Result, Ok, Err, option_map}
use Rattle.std.specs.List.{IsDistinct}
use Rattle.std.specs.Map.{lookup}
use Rattle.serde_json.specs.Data.{Data}
use Rattle.kapi_object.specs.Object.{tree_of}
use Rattle.kapi_store.specs.Stored.{stored_tree}
use Rattle.kapi_model.specs.declared.fault.FieldFault.{FieldFault}
use Rattle.kapi_object.specs.declared.object.Object.{Object}
use Rattle.kapi_policy.specs.Objects.{PolicyObjects}
use Rattle.kapi_store.specs.Keys.{is_key}
use Rattle.kapi_store.specs.Plain.{Plain, PlainChange, free_place, plain_change}
use Rattle.kapi_store.specs.declared.key.Key.{Key}
use Rattle.kapi_store.specs.declared.ready.Ready.{Ready}
use Rattle.kapi_answer.specs.declared.create.Admitted.{Admitted as AdmittedBody}
use Rattle.kapi_answer.specs.declared.response.Response.{Response as ResponseOf}
use Rattle.kapi_answer.specs.declared.prepared.Prepared.{Prepared}
use Rattle.kapi_answer.specs.declared.response.Deletion.{Deletion as DeletionOf}
use Rattle.kapi_answer.specs.declared.response.NewObject.{NewObject}
use Rattle.kapi_answer.specs.declared.response.Replacement.{Replacement}
use Rattle.kapi_answer.specs.declared.response.Passed.{Passed as PassedOf}
use Rattle.kapi_answer.specs.declared.response.Passed.TheVariants as passed
use Rattle.kapi_answer.specs.declared.response.Plan.{Plan as PlanOf}
use Rattle.kapi_answer.specs.declared.response.Plan.TheVariants as plan
use Rattle.kapi_answer.specs.declared.task.Task.{Task as TaskOf}
use Rattle.kapi_watch.specs.Running.{IsFresh, watch_data}
use Rattle.kapi_watch.specs.declared.watch.Watch.{Watch}
use Rattle.kapi_answer.specs.Answer.{Answered, Passed, Plan, Task, create, delete, replace, tell, told, watch, watching}
use Rattle.kapi_answer.specs.Create.{Admitted}
use Rattle.kapi_answer.specs.Delete.{Deletion}
use Rattle.kapi_answer.specs.Response.{Response}
use Rattle.kapi_answer.specs.Watch.{watching_data}

-- the changes of a write that is to be made, if any
abbrev pub changes_data : Option Ready → List PlainChange
changes_data None = []
changes_data (Some ready) = map plain_change ready

-- what a request gets, as data
abbrev pub response_data : ResponseOf → Response
response_data o = record { code = o.code; content = o.content; body = o.body.items; changes = changes_data o.write }

-- what a request that passed every check gets, as data
abbrev pub passed_data : PassedOf → Passed
passed_data (passed.Answered response) = told (response_data response)
passed_data (passed.Watching w) = watching (watch_data w)

-- the write of what a request that passed every check gets
abbrev pub write_of : PassedOf → Option Ready
write_of (passed.Answered response) = response.write
write_of (passed.Watching w) = None

-- the watch that what a request gets starts, if it starts one
abbrev pub watch_in : PassedOf → Option Watch
watch_in (passed.Answered response) = None
watch_in (passed.Watching w) = Some w

-- an answer as data
abbrev pub answered_data : Prepared → Answered
answered_data p = record { reply = p.reply; changes = changes_data p.write; watch = option_map watching_data p.watch }

-- an object as its tree, or the faults
abbrev pub object_data : Result Object (List FieldFault) → Result Data (List FieldFault)
object_data (Ok object) = Ok (tree_of object)
object_data (Err faults) = Err faults

-- a body that was read, with its object as a tree
abbrev pub admitted_data : AdmittedBody → Admitted
admitted_data a = record { given = a.given; object = object_data a.object }

-- a new object and its place, as data
abbrev pub new_data : NewObject → Key × Data
new_data new = (new.key, tree_of new.object)

-- a deletion as data
abbrev pub deletion_data : DeletionOf → Deletion
deletion_data d = record { name = d.name; keys = d.keys.items; told = d.reply.items }

-- a plan as data
abbrev pub plan_data : PlanOf → Plan
plan_data (plan.Tell response) = tell (response_data response)
plan_data (plan.Watch w) = watch (watch_data w)
plan_data (plan.Create new) = create (new_data new)
plan_data (plan.Replace r) = replace (new_data r.new)
plan_data (plan.Delete deletion) = delete (deletion_data deletion)

-- a resource request's task as data
abbrev pub task_data : PolicyObjects → TaskOf → Task
task_data objects t = record {
  objects = objects;
  identity = t.identity.now;
  row = t.row.now;
  namespace = t.namespace.now;
  name = t.name.now;
  filter = t.filter.now;
  body = t.body.now;
}

-- the object that is to be replaced stands at its place
abbrev pub IsReplaced : Plain → Replacement → Type 0
IsReplaced s r = lookup (is_key r.new.key) s.objects ≡ Some (stored_tree r.old)

-- a planned watch has shown nothing yet, the place of a new object is free, an object that is to be replaced stands at
-- its place, and nothing is to be deleted twice
abbrev pub IsReady : Plain → PlanOf → Type 0
IsReady s (plan.Tell response) = Unit {0}
IsReady s (plan.Watch w) = IsFresh s w
IsReady s (plan.Create new) = free_place s new.key ≡ Ok tt
IsReady s (plan.Replace r) = IsReplaced s r
IsReady s (plan.Delete deletion) = IsDistinct is_key deletion.keys.items

-- a plan of an answer alone has no write
abbrev pub ChangesNothing : PlanOf → Type 0
ChangesNothing (plan.Tell response) = response.write ≡ None
ChangesNothing (plan.Watch w) = Unit {0}
ChangesNothing (plan.Create new) = Unit {0}
ChangesNothing (plan.Replace r) = Unit {0}
ChangesNothing (plan.Delete deletion) = Unit {0}
