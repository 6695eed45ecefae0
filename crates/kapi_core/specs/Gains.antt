-- Who acts in a list of events, and what nobody gains by it (Kubernetes, 'Using RBAC Authorization', 'Privilege
-- escalation prevention and bootstrapping').
use Rattle.std.specs.Prelude.{◌≡◌, ◌⊎◌, List, [], ◌∷◌, ◌++◌, Option, Some, None}
use Rattle.kapi_model.specs.declared.identity.Identity.{Identity}
use Rattle.kapi_policy.specs.Objects.{PolicyObjects}
use Rattle.kapi_aggregation.specs.Roles.{Labelled, roles_in}
use Rattle.kapi_aggregation.specs.Unions.{IsSettled}
use Rattle.kapi_escalation_laws.specs.Access.{GivesNothing, IsUnprivileged}
use Rattle.kapi_escalation_laws.specs.StoredStates.{labels_at}
use Rattle.kapi_escalation_laws.specs.Within.{RolesNeverGrow, StaysWithin}
use Rattle.kapi_aggregation.specs.Members.{Has}
use Rattle.kapi_core.specs.declared.event.Answer.TheVariants as told
use Rattle.kapi_core.specs.declared.event.ConnId.{ConnId}
use Rattle.kapi_core.specs.declared.event.Event.{Event}
use Rattle.kapi_core.specs.declared.event.Event.TheVariants as event
use Rattle.kapi_core.specs.Machine.{Link, Machine, after, link_at, policy_of, step}

-- the identity that makes the requests of a connection, if it is open
abbrev pub identity_on : Option Link → List Identity
identity_on None = []
identity_on (Some l) = l.identity ∷ []

-- the identity that acts by an event: the identity of the served connection, if it is open then
abbrev pub acting_by : Machine → Event → List Identity
acting_by m (event.Open identity) = []
acting_by m (event.Feed conn piece) = []
acting_by m (event.Serve conn) = identity_on (link_at conn.0 m)
acting_by m (event.Pump conn) = []
acting_by m event.Turn = []
acting_by m (event.Close conn) = []

-- the identities that act in a list of events
unfoldable pub acting_in : Machine → List Event → List Identity
acting_in m [] = []
acting_in m (e ∷ es) = acting_by m e ++ acting_in (step m e).1 es

-- one of the events opens the connection for the identity
abbrev pub IsOpened : Machine → List Event → ConnId → Identity → Type 0
IsOpened m [] conn who = ⊥
IsOpened m (e ∷ es) conn who = ((e ≡ event.Open who) × ((step m e).0 ≡ told.Opened conn)) ⊎ IsOpened (step m e).1 es conn who

-- the connection was open for the identity before the events, or one of them opens it
abbrev pub IsConnected : Machine → List Event → ConnId → Identity → Type 0
IsConnected m es conn who = ((l : Link) × (Has m.links (conn.0, l) × (l.identity ≡ who))) ⊎ IsOpened m es conn who

-- one of the events serves a connection of the identity
pub record IsServed (m : Machine) (es : List Event) (who : Identity) : Type 0 where
  pub conn : ConnId
  pub named : Has es (event.Serve conn)
  pub connected : IsConnected m es conn who

-- if the aggregated cluster roles have their unions and all acting identities are unprivileged, the new policy
-- allows no identity what the old one allowed neither to that identity nor to one of those acting
abbrev pub NobodyGains : List Labelled → List Identity → PolicyObjects → PolicyObjects → Type 0
NobodyGains roles acting old new =
    IsSettled roles → ((who : Identity) → Has acting who → IsUnprivileged old who) → GivesNothing acting old new

-- from any moment of a list of events on, nobody gains by the events that follow
abbrev pub NobodyGainsDuring : Machine → List Event → Type 0
NobodyGainsDuring m events =
    (front back : List Event) → front ++ back ≡ events
    → NobodyGains (roles_in (after m front).store.objects) (acting_in (after m front) back) (policy_of (after m front)) (policy_of (after (after m front) back))

-- if the aggregated cluster roles have their unions and all acting identities are unprivileged, what roles have now,
-- what turns would add to aggregated ones, and what bindings give, is within what the acting identities held at the
-- start, or was there then
abbrev pub StaysHeld : List Identity → Machine → Machine → Type 0
StaysHeld acting start now =
    IsSettled (roles_in start.store.objects) → ((who : Identity) → Has acting who → IsUnprivileged (policy_of start) who)
    → StaysWithin acting (policy_of start) (policy_of now) (labels_at now.store.objects)

-- from any moment of a list of events on, all stays within what those held who act by the events that follow
abbrev pub StaysHeldDuring : Machine → List Event → Type 0
StaysHeldDuring m events =
    (front back : List Event) → front ++ back ≡ events → StaysHeld (acting_in (after m front) back) (after m front) (after (after m front) back)

-- if the aggregated cluster roles have their unions and all who act in two lists of events are unprivileged, no role gets
-- by the second list what no acting identity held at the start, even if it is deleted and made again
abbrev pub RolesNeverGrowBetween : Machine → List Event → List Event → Type 0
RolesNeverGrowBetween m front back =
    IsSettled (roles_in m.store.objects)
    → ((who : Identity) → Has (acting_in m front ++ acting_in (after m front) back) who → IsUnprivileged (policy_of m) who)
    → RolesNeverGrow (acting_in m front ++ acting_in (after m front) back) (policy_of m) (policy_of (after m front)) (policy_of (after (after m front) back))
