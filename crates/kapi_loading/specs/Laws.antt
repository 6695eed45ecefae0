-- The laws of machines hold of the machine that a file makes.
use Rattle.std.specs.Prelude.{◌≡◌, ℕ, Bool, false, List, map, replicate, Ok}
use Rattle.kapi_core.specs.Histories.{served}
use Rattle.kapi_core.specs.Machine.{Machine, with_rechecks}
use Rattle.kapi_core.specs.declared.event.Event.TheVariants as event
use Rattle.kapi_lines.specs.Lines.{lines_of}
use Rattle.kapi_loading.specs.Loading.{machine_from}
use Rattle.kapi_model.specs.declared.row.ResourceRow.{ResourceRow}

-- the texts of the objects of a file
abbrev pub objects_in : List ℕ → List (List ℕ)
objects_in file = map (λ l. l.text) (lines_of file)

-- the machine of a file has begun at its revision, loaded the objects of the file, and made turns, whether it rechecks
-- the rights of watches or not
abbrev pub FileIsServed : Type 0
FileIsServed = (on : Bool) (table : List ResourceRow) (first : ℕ) (file : List ℕ) (m : Machine)
    → machine_from table first file ≡ Ok m → with_rechecks on m ≡ served on table first (objects_in file) (replicate 64 event.Turn)

-- no connection was opened on the machine of a file, which checks the rights of a watch at its start alone
abbrev pub FileIsUnopened : Type 0
FileIsUnopened = (table : List ResourceRow) (first : ℕ) (file : List ℕ) (m : Machine) → machine_from table first file ≡ Ok m → (m.next_id ≡ 0) × (m.rechecks ≡ false)
