-- What passes the check against escalation is granted.
use Rattle.std.proofs.Common.{◌≡◌, ℕ, List, Option, None, Some, Result, Ok, Err, refl}
use Rattle.std.specs.Prelude.{IfOk}
use Rattle.serde_json.specs.Data.{Data}
use Rattle.kapi_model.specs.declared.identity.Identity.{Identity}
use Rattle.kapi_policy.specs.Objects.{PolicyObjects}
use Rattle.kapi_store.specs.declared.key.Key.{Key}
use Rattle.kapi_escalation.proofs.Granted.{checks_put}
use Rattle.kapi_escalation.specs.Granted.{IsGrantedAt, IsGrantedPut}
use Rattle.kapi_escalation.specs.Kind.{policy_kind}
use Rattle.kapi_escalation.specs.Written.{written_at}
use Rattle.kapi_escalation.specs.declared.kind.PolicyKind.{PolicyKind}
use Rattle.kapi_escalation.proofs.Grants.{granted_where_checked}
use Rattle.kapi_escalation.specs.Checks.{Fault, checked}
use Rattle.kapi_escalation.specs.declared.write.PolicyWrite.{PolicyWrite}
use Rattle.kapi_answer.specs.Escalation.{escalated, escalated_as, guarded, told}

passes_as : (of : Option PolicyKind) (objects : PolicyObjects) (identity : Identity) (request_name : List ℕ) (k : Key) (old : Option Data) (new : Data)
    → IfOk (escalated_as of objects identity request_name k old new) (λ u. IsGrantedAt objects identity of k (Some new))
unfolding escalated_as guarded
passes_as None objects identity request_name k old new = tt
passes_as (Some of) objects identity request_name k old new = by_checked (checked objects identity write) refl
  where
    write : PolicyWrite
    write = record { request_name = request_name; object = written_at of k old new }

    by_checked : (r : Result (Unit {0}) Fault) → checked objects identity write ≡ r → IfOk (told k.name (written_at of k old new) r) (λ u. IsGrantedPut objects identity of k new)
    by_checked (Ok u) passes = record {
      write = write;
      puts = checks_put of k old new;
      granted = granted_where_checked objects identity write passes;
    }
    by_checked (Err fault) passes = tt

-- what the check passes is granted
pub passed_is_granted : (objects : PolicyObjects) (identity : Identity) (request_name : List ℕ) (k : Key) (old : Option Data) (new : Data)
    → IfOk (escalated objects identity request_name k old new) (λ u. IsGrantedAt objects identity (policy_kind k) k (Some new))
unfolding escalated
passed_is_granted objects identity request_name k old new = passes_as (policy_kind k) objects identity request_name k old new
