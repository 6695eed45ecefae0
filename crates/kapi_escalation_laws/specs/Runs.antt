-- Which policies are reached from one, and by whose writes.
use Rattle.std.specs.Prelude.{List}
use Rattle.serde_json.specs.Data.{Data}
use Rattle.kapi_model.specs.declared.identity.Identity.{Identity}
use Rattle.kapi_store.specs.declared.key.Key.{Key}
use Rattle.kapi_escalation_laws.specs.States.{PolicyState}
use Rattle.kapi_escalation_laws.specs.Steps.{AreBy, PolicyStep, Runs}
use Rattle.kapi_escalation_laws.specs.StoredStates.{policy_state}

-- some steps, whose writes are made by the acting identities, lead from the one state to the other
pub record Reaches (acting : List Identity) (start now : PolicyState) : Type 0 where
  pub steps : List PolicyStep
  pub by : AreBy acting steps
  pub runs : Runs start steps now

-- some steps, whose writes are made by the acting identities, lead from the policy of some objects to that of others
abbrev pub ObjectsReach : List Identity → List (Key × Data) → List (Key × Data) → Type 0
ObjectsReach acting os now = Reaches acting (policy_state os) (policy_state now)
