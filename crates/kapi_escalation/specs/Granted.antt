-- Which changes of a store the check against escalation lets pass (Kubernetes, 'Using RBAC Authorization', 'Privilege
-- escalation prevention and bootstrapping').
use Rattle.std.specs.Prelude.{◌≡◌, true, List, [], ◌∷◌, Option, Some, None}
use Rattle.std.specs.List.{AllByRecursion}
use Rattle.serde_json.specs.Data.{Data}
use Rattle.kapi_model.specs.declared.identity.Identity.{Identity}
use Rattle.kapi_policy.specs.Objects.{PolicyObjects}
use Rattle.kapi_store.specs.Plain.{PlainChange}
use Rattle.kapi_store.specs.declared.key.Key.{Key}
use Rattle.kapi_escalation.specs.Kind.{policy_kind}
use Rattle.kapi_escalation.specs.Reading.{put_at}
use Rattle.kapi_escalation.specs.declared.kind.PolicyKind.{PolicyKind}
use Rattle.kapi_escalation.specs.Checks.{grant}
use Rattle.kapi_escalation.specs.Writes.{put_of}
use Rattle.kapi_escalation.specs.declared.write.PolicyWrite.{PolicyWrite}

-- the identity is granted a write that puts just this role or binding at its place
pub record IsGrantedPut (objects : PolicyObjects) (identity : Identity) (of : PolicyKind) (k : Key) (tree : Data) : Type 0 where
  pub write : PolicyWrite
  pub puts : put_of write.object ≡ put_at of k tree
  pub granted : grant objects identity write ≡ true

-- what a change leaves at the place of a role or binding is granted; so are a deletion and a change at any other place
abbrev pub IsGrantedAt : PolicyObjects → Identity → Option PolicyKind → Key → Option Data → Type 0
IsGrantedAt objects identity (Some of) k (Some tree) = IsGrantedPut objects identity of k tree
IsGrantedAt objects identity (Some of) k None = Unit {0}
IsGrantedAt objects identity None k left = Unit {0}

-- a change is granted
abbrev pub IsGranted : PolicyObjects → Identity → PlainChange → Type 0
IsGranted objects identity c = IsGrantedAt objects identity (policy_kind c.key) c.key c.new

-- a change is a deletion
abbrev pub IsDeletion : PlainChange → Type 0
IsDeletion c = c.new ≡ None

-- the changes of one write are granted: the first is, and only deletions come after it
abbrev pub AreGranted : PolicyObjects → Identity → List PlainChange → Type 0
AreGranted objects identity [] = Unit {0}
AreGranted objects identity (c ∷ cs) = IsGranted objects identity c × AllByRecursion IsDeletion cs
