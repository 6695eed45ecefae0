-- What is allowed to which identity, and which is unprivileged (Kubernetes, 'Using RBAC Authorization', 'Privilege
-- escalation prevention and bootstrapping').
use Rattle.std.specs.Prelude.{◌≡◌, ◌⊎◌, ℕ, Bool, true, false, ◌||◌, List, codes}
use Rattle.std.specs.List.{list_any}
use Rattle.kapi_model.specs.declared.kinds.RoleKind.{RoleKind}
use Rattle.kapi_model.specs.declared.role_ref.RoleRef.{RoleRef}
use Rattle.kapi_model.specs.Identities.{is_master}
use Rattle.kapi_model.specs.declared.identity.Identity.{Identity}
use Rattle.kapi_rules.specs.Points.{HasPlainResource}
use Rattle.kapi_rules.specs.declared.point.Point.{Point}
use Rattle.kapi_rules.specs.declared.point.Point.TheVariants as point
use Rattle.kapi_policy.specs.Decided.{decided}
use Rattle.kapi_policy.specs.Laws.{is_allowed}
use Rattle.kapi_policy.specs.Objects.{PolicyObjects}
use Rattle.kapi_escalation.specs.Exempt.{binding, escalating}

-- the point is allowed to the identity in the namespace, or cluster-wide if the namespace is empty
abbrev pub may : PolicyObjects → Identity → List ℕ → Point → Bool
may objects identity namespace p = is_allowed (decided objects identity namespace p)

-- the verb of a point
abbrev pub verb_of : Point → List ℕ
verb_of (point.Resource p) = p.verb
verb_of (point.Url p) = p.verb

-- the identity is no master, and may in no namespace, nor cluster-wide, write or bind a role whose rules it does not
-- hold, whatever the role's name, nor impersonate
pub record IsUnprivileged (objects : PolicyObjects) (identity : Identity) : Type 0 where
  pub no_master : is_master identity ≡ false
  pub no_escalate : (namespace : List ℕ) (kind : RoleKind) (name : List ℕ) → may objects identity namespace (escalating kind name) ≡ false
  pub no_bind : (namespace : List ℕ) (role : RoleRef) → may objects identity namespace (binding role) ≡ false
  pub no_impersonate : (namespace : List ℕ) (p : Point) → verb_of p ≡ codes "impersonate" → may objects identity namespace p ≡ false

-- the identity may do something with the verb `impersonate` ('Authenticating', 'User impersonation')
pub record MayImpersonate (objects : PolicyObjects) (identity : Identity) : Type 0 where
  pub namespace : List ℕ
  pub request : Point
  pub plain : HasPlainResource request
  pub verb : verb_of request ≡ codes "impersonate"
  pub allowed : may objects identity namespace request ≡ true

-- the identity is the other, or may impersonate some identity
abbrev pub ActsAs : PolicyObjects → Identity → Identity → Type 0
ActsAs objects identity other = (other ≡ identity) ⊎ MayImpersonate objects identity

-- what is allowed to an identity now was allowed at the start, at the same place, to it or to an acting identity
abbrev pub GivesNothing : List Identity → PolicyObjects → PolicyObjects → Type 0
GivesNothing acting start now =
    (identity : Identity) (namespace : List ℕ) (p : Point) → HasPlainResource p → may now identity namespace p ≡ true
    → (may start identity namespace p || list_any (λ who. may start who namespace p) acting) ≡ true
