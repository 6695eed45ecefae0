-- The policy of a file: its lines loaded in order, and then the turns that follow.
use Rattle.std.specs.Prelude.{◌≡◌, ℕ, zero, suc, List, [], ◌∷◌, Result, Ok, Err}
use Rattle.kapi_text.specs.ResultIs.{Fails, ◌>>=◌}
use Rattle.kapi_answer.specs.Load.{LoadFault, loads}
use Rattle.kapi_answer.specs.declared.loading.LoadError.{LoadError}
use Rattle.kapi_answer.specs.declared.loading.LoadError.TheVariants as error
use Rattle.kapi_store.specs.Plain.{PlainChange}
use Rattle.kapi_core.specs.Machine.{Machine, changed, policy_of, step}
use Rattle.kapi_core.specs.Opening.{empty, opening}
use Rattle.kapi_core.specs.Running.{Running}
use Rattle.kapi_core.specs.Refines.{Refines}
use Rattle.kapi_core.specs.declared.event.Event.TheVariants as event
use Rattle.kapi_publishing.specs.Boards.{Board, Chair, fresh}
use Rattle.kapi_publishing.specs.Steps.{after}
use Rattle.kapi_policy.specs.Objects.{PolicyObjects}
use Rattle.kapi_loading.specs.Faults.{FileFault, bad_line, model_of_fault}
use Rattle.kapi_core.specs.ProgramTable.{program_rows}
use Rattle.kapi_model.specs.declared.row.ResourceRow.{ResourceRow}
use Rattle.kapi_lines.specs.Lines.{NumberedLine, lines_of}
use Rattle.kapi_loading.specs.declared.fault.StartError.{StartError}
use Rattle.kapi_loading.specs.declared.fault.StartError.TheVariants as fault

-- why no machine is made if a line of this number is not loaded
abbrev pub load_fault : ℕ → LoadError → StartError
load_fault number error.Memory = fault.Memory
load_fault number _ = fault.Line number

-- the machine that a line's object was created on, or the line
abbrev pub made_by : ℕ → Machine → Result (List PlainChange) LoadFault → Result Machine FileFault
made_by number m (Ok changes) = Ok (changed changes m)
made_by number m (Err fault) = Err (bad_line number)

-- the machine after all lines, or the first that is not loaded
unfoldable pub loaded : Machine → List NumberedLine → Result Machine FileFault
loaded m [] = Ok m
loaded m (l ∷ ls) = made_by l.number m (loads m.store l.text) >>= λ next. loaded next ls

-- the machine after so many turns; one that has nothing to do changes nothing
unfoldable pub turned : ℕ → Machine → Machine
turned zero m = m
turned (suc k) m = turned k (step m event.Turn).1

-- the machine that lines make: after all its lines, and then the turns that follow, 64 at most
abbrev pub made_of : Machine → List NumberedLine → Result Machine FileFault
made_of m lines = loaded m lines >>= λ k. Ok (turned 64 k)

-- the machine that a file of objects makes of the opening one over a table at `first`, or the first line at fault
unfoldable pub machine_from : List ResourceRow → ℕ → List ℕ → Result Machine FileFault
machine_from table first objects = made_of (opening table first) (lines_of objects)

-- the machine that the objects of a file make alone, of the one without objects whose revisions begin after `first`
unfoldable pub machine_alone : List ResourceRow → ℕ → List ℕ → Result Machine FileFault
machine_alone table first objects = made_of (empty table first) (lines_of objects)

-- the machine that the objects of a policy make alone, of the resource types of the programs
abbrev pub policy_machine : List ℕ → Result Machine FileFault
policy_machine objects = machine_alone program_rows 0 objects

-- the machine that a file of objects makes of the opening one at revision 0, or the first line at fault
abbrev pub machine_of : List ResourceRow → List ℕ → Result Machine FileFault
machine_of table objects = machine_from table 0 objects

-- the core refines a machine, and the desk has published its policy
abbrev pub Publishes : Running → Board → Machine → Type 0
Publishes core desk m = Refines core m × (after desk.opening desk.list ≡ policy_of m)

-- the desk gives such seats, no step waits, and it has published the policy
abbrev pub HasPublished : Chair → Board → PolicyObjects → Type 0
HasPublished seat desk policy = (fresh desk ≡ seat) × (desk.waiting ≡ []) × (after desk.opening desk.list ≡ policy)

-- the core refines the machine that is given, whose policy has what is said of it; or why no machine is given
abbrev pub Reaches : Running → (PolicyObjects → Type 0) → Result (Unit {0}) StartError → Result Machine FileFault → Type 0
Reaches core Follows (Ok done) given = (m : Machine) × (given ≡ Ok m) × Refines core m × Follows (policy_of m)
Reaches core Follows (Err e) given = Fails (model_of_fault e) given
