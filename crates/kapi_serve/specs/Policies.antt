-- Which policies a desk has published.
use Rattle.std.specs.Prelude.{◌≡◌, ℕ, List, take}
use Rattle.kapi_core.specs.Machine.{Machine, after as machine_after, policy_of}
use Rattle.kapi_core.specs.Running.{Running}
use Rattle.kapi_core.specs.declared.event.Event.{Event}
use Rattle.kapi_publishing.specs.Boards.{Board}
use Rattle.kapi_publishing.specs.Rule.{Begins}
use Rattle.kapi_publishing.specs.Steps.{after}
use Rattle.kapi_loading.specs.Loading.{Publishes}
use Rattle.kapi_policy.specs.declared.change.PolicyChange.{PolicyChange}

-- if a desk had published the policy of the machine, each list of published steps since then gives the policy of the
-- machine after the first n events, for some n: a reader of the list decides as the machine did at that moment
abbrev pub PublishesPolicies : Running → Board → Board → List Event → Type 0
PublishesPolicies core board next events =
    (m : Machine) → Publishes core board m → (seen : List (List PolicyChange)) → Begins board.list seen → Begins seen next.list
    → (n : ℕ) × (after next.opening seen ≡ policy_of (machine_after m (take n events)))
