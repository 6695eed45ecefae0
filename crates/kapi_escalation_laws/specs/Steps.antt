-- How a policy changes: by writes that the check against escalation grants, by deletions, and by turns of aggregated
-- cluster roles (Kubernetes, 'Using RBAC Authorization', 'Privilege escalation prevention and bootstrapping' and
-- 'Aggregated ClusterRoles').
use Rattle.std.specs.Prelude.{◌≡◌, ℕ, true, false, if◌then◌else◌, List, [], ◌∷◌, Option, Some}
use Rattle.std.specs.List.{AllByRecursion}
use Rattle.std.specs.Str.{bytes_eq}
use Rattle.serde_json.specs.Data.{Data}
use Rattle.kapi_model.specs.declared.identity.Identity.{Identity}
use Rattle.kapi_model.specs.declared.role.ClusterRole.{ClusterRole}
use Rattle.kapi_aggregation.specs.declared.turn.Turn.{Turn}
use Rattle.kapi_policy.specs.Laws.{IsInOrder}
use Rattle.kapi_policy.specs.Objects.{applied}
use Rattle.kapi_policy.specs.declared.change.PolicyChange.TheVariants as change
use Rattle.kapi_policy.specs.declared.change.PolicyKey.{PolicyKey}
use Rattle.kapi_policy.specs.declared.change.PolicyKey.TheVariants as key
use Rattle.kapi_policy.specs.declared.change.PolicyPut.{PolicyPut}
use Rattle.kapi_policy.specs.declared.change.PolicyPut.TheVariants as put
use Rattle.kapi_escalation.specs.Checks.{grant}
use Rattle.kapi_escalation.specs.Writes.{put_of}
use Rattle.kapi_escalation.specs.declared.write.PolicyWrite.{PolicyWrite}
use Rattle.kapi_escalation_laws.specs.Access.{ActsAs, IsUnprivileged}
use Rattle.kapi_aggregation.specs.Members.{Has}
use Rattle.kapi_escalation_laws.specs.States.{IsSettled, Labels, PolicyState, cluster_role_at, turned}

-- ---- one step

-- a write: its caller, its effective identity, its object, and the labels of a cluster role that is written
pub record MadeWrite : Type 0 where
  pub writer : Identity
  pub made_as : Identity
  pub write : PolicyWrite
  pub labels : Option Data

-- a write, a deletion of one object, or the turn of the cluster role of a name
pub data PolicyStep : Type 0 where
  writes : MadeWrite → PolicyStep
  deletes : PolicyKey → PolicyStep
  turns : List ℕ → PolicyStep

-- all cluster roles keep their labels
abbrev pub KeepsLabels : Labels → Labels → Type 0
KeepsLabels old new = (name : List ℕ) → new name ≡ old name

-- a cluster role that is written has those labels, and all others keep theirs
abbrev pub SetsLabels : PolicyPut → Option Data → Labels → Labels → Type 0
SetsLabels (put.Role place r) given old new = KeepsLabels old new
SetsLabels (put.ClusterRole name r) given old new = (q : List ℕ) → new q ≡ (if bytes_eq q name then given else old q)
SetsLabels (put.RoleBinding place b) given old new = KeepsLabels old new
SetsLabels (put.ClusterRoleBinding name b) given old new = KeepsLabels old new

-- all cluster roles but the one that is deleted keep their labels
abbrev pub DropsLabels : PolicyKey → Labels → Labels → Type 0
DropsLabels (key.Role place) old new = KeepsLabels old new
DropsLabels (key.ClusterRole name) old new = (q : List ℕ) → bytes_eq q name ≡ false → new q ≡ old q
DropsLabels (key.RoleBinding place) old new = KeepsLabels old new
DropsLabels (key.ClusterRoleBinding name) old new = KeepsLabels old new

-- the object is written, as the check grants it to the write's effective identity
pub record IsWritten (old : PolicyState) (w : MadeWrite) (new : PolicyState) : Type 0 where
  pub acts : ActsAs old.objects w.writer w.made_as
  pub granted : grant old.objects w.made_as w.write ≡ true
  pub objects : new.objects ≡ applied (change.Put (put_of w.write.object)) old.objects
  pub labels : SetsLabels (put_of w.write.object) w.labels old.labels new.labels

-- the object is deleted, by any identity
pub record IsDeleted (old : PolicyState) (k : PolicyKey) (new : PolicyState) : Type 0 where
  pub objects : new.objects ≡ applied (change.Delete k) old.objects
  pub labels : DropsLabels k old.labels new.labels

-- the cluster role has its union in place of its rules
pub record IsTurned (old : PolicyState) (name : List ℕ) (new : PolicyState) : Type 0 where
  pub role : ClusterRole
  pub found : cluster_role_at old.objects name ≡ Some role
  pub objects : new.objects ≡ applied (change.Put (put.ClusterRole name (turned old.objects old.labels name role))) old.objects
  pub labels : KeepsLabels old.labels new.labels

-- the cluster role that the turn names has the rules of the turn
pub record IsRewritten (old : PolicyState) (turn : Turn) (new : PolicyState) : Type 0 where
  pub role : ClusterRole
  pub found : cluster_role_at old.objects turn.name ≡ Some role
  pub objects : new.objects ≡ applied (change.Put (put.ClusterRole turn.name (record role { rules = turn.rules }))) old.objects
  pub labels : KeepsLabels old.labels new.labels

-- the step leads from the one state to the other
abbrev pub Makes : PolicyState → PolicyStep → PolicyState → Type 0
Makes old (writes w) new = IsWritten old w new
Makes old (deletes k) new = IsDeleted old k new
Makes old (turns name) new = IsTurned old name new

-- ---- runs

-- the steps lead, one after the other, from the one state to the other
abbrev pub Runs : PolicyState → List PolicyStep → PolicyState → Type 0
Runs old [] new = (new.objects ≡ old.objects) × KeepsLabels old.labels new.labels
Runs old (step ∷ steps) new = (next : PolicyState) × (Makes old step next × Runs next steps new)

-- a write is made by one of the identities; a deletion and a turn by any
abbrev pub IsBy : List Identity → PolicyStep → Type 0
IsBy acting (writes w) = Has acting w.writer
IsBy acting (deletes k) = Unit {0}
IsBy acting (turns name) = Unit {0}

-- each write is made by one of the acting identities
abbrev pub AreBy : List Identity → List PolicyStep → Type 0
AreBy acting steps = AllByRecursion (IsBy acting) steps

-- the lists are in the order of their names, aggregated cluster roles are settled, and acting identities unprivileged
pub record IsGuarded (acting : List Identity) (start : PolicyState) : Type 0 where
  pub order : IsInOrder start.objects
  pub settled : IsSettled start
  pub unprivileged : (who : Identity) → Has acting who → IsUnprivileged start.objects who
