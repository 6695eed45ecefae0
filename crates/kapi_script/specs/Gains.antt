-- The events that the lines of a script make (Kubernetes, 'Using RBAC Authorization', 'Privilege escalation prevention
-- and bootstrapping').
use Rattle.std.specs.Prelude.{ℕ, Bool, if◌then◌else◌, List, [], ◌∷◌, ◌++◌, drop, take}
use Rattle.kapi_aggregation.specs.Roles.{roles_in}
use Rattle.kapi_core.specs.Gains.{NobodyGains, acting_in}
use Rattle.kapi_core.specs.Machine.{Machine, after, policy_of}
use Rattle.kapi_core.specs.declared.event.Event.{Event}
use Rattle.kapi_model.specs.declared.row.ResourceRow.{ResourceRow}
use Rattle.kapi_script.specs.Scripts.{Line, bad, is_bad, is_refused, line_of, lines, skipped, start, told}

-- the event that a line makes; none if it runs out of memory
abbrev pub made_by : Line → Bool → List Event
made_by skipped refused = []
made_by bad refused = []
made_by (told e) refused = if refused then [] else e ∷ []

-- the events that lines make, up to the first bad one
unfoldable pub made : List (List ℕ) → List Bool → List Event
made [] refused = []
made (l ∷ ls) refused = if is_bad (line_of l) then [] else made_by (line_of l) (is_refused refused) ++ made ls (drop 1 refused)

-- the machine after so many lines of a script
abbrev pub machine_at : List ResourceRow → List ℕ → List Bool → ℕ → Machine
machine_at table text refused count = after (start table) (made (take count (lines text)) refused)

-- the events that the lines behind so many lines of a script make
abbrev pub made_from : List ℕ → List Bool → ℕ → List Event
made_from text refused count = made (drop count (lines text)) (drop count refused)

-- nobody gains by these lines what none of the identities acting in them held before them
abbrev pub NobodyGainsFrom : List ResourceRow → List ℕ → List Bool → ℕ → Type 0
NobodyGainsFrom table text refused count =
    NobodyGains (roles_in (machine_at table text refused count).store.objects) (acting_in (machine_at table text refused count) (made_from text refused count))
    (policy_of (machine_at table text refused count)) (policy_of (after (machine_at table text refused count) (made_from text refused count)))
