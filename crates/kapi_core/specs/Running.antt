-- What contracts see of a running machine.
use Rattle.std.specs.Prelude.{ℕ, List, Bool}
use Rattle.kapi_aggregation.specs.Marks.{Tracked}
use Rattle.kapi_policy.specs.Objects.{PolicyObjects}
use Rattle.kapi_store.specs.State.{State}
use Rattle.kapi_core.specs.declared.connection.Connection.{Connection}

-- a running machine's store, the roles and bindings of its policy, the names that are kept of its cluster roles, its
-- open connections by number, the next number, and whether the rights of watches are rechecked
pub record Running : Type 0 where
  pub store : State
  pub policy : PolicyObjects
  pub marks : Tracked
  pub connections : List (ℕ × Connection)
  pub next_id : ℕ
  pub rechecks : Bool
