-- What is stored of a granted write is granted, and a deletion is.
use Rattle.std.proofs.Common.{◌≡◌, ◌∙◌, ℕ, List, Option, None, Some, refl, sym, ap}
use Rattle.serde_json.specs.Data.{Data}
use Rattle.kapi_object.specs.Object.{stamped_tree}
use Rattle.kapi_rbac_types.proofs.Stamped.{cluster_role_binding_stamped, cluster_role_stamped, role_binding_stamped, role_stamped}
use Rattle.kapi_model.specs.declared.identity.Identity.{Identity}
use Rattle.kapi_policy.specs.Objects.{PolicyObjects}
use Rattle.kapi_policy.specs.declared.change.PolicyPut.TheVariants as put
use Rattle.kapi_store.specs.declared.key.Key.{Key}
use Rattle.kapi_escalation.specs.Writes.{put_of}
use Rattle.kapi_escalation.specs.Granted.{IsGrantedAt}
use Rattle.kapi_escalation.specs.Kind.{place_of}
use Rattle.kapi_escalation.specs.Reading.{put_at}
use Rattle.kapi_escalation.specs.Written.{written_at}
use Rattle.kapi_escalation.specs.declared.kind.PolicyKind.{PolicyKind}
use Rattle.kapi_escalation.specs.declared.kind.PolicyKind.TheVariants as kind

-- the check is of what is put
pub checks_put : (of : PolicyKind) (k : Key) (old : Option Data) (new : Data) → put_of (written_at of k old new) ≡ put_at of k new
checks_put kind.Role k old new = refl
checks_put kind.RoleBinding k old new = refl
checks_put kind.ClusterRole k old new = refl
checks_put kind.ClusterRoleBinding k old new = refl

-- the stored tree is put as the same role or binding
stamped_put : (of : PolicyKind) (k : Key) (uid version : List ℕ) (d : Data) → put_at of k d ≡ put_at of k (stamped_tree uid version d)
stamped_put kind.Role k uid version d = ap (put.Role (place_of k)) (sym (role_stamped uid version d))
stamped_put kind.RoleBinding k uid version d = ap (put.RoleBinding (place_of k)) (sym (role_binding_stamped uid version d))
stamped_put kind.ClusterRole k uid version d = ap (put.ClusterRole k.name) (sym (cluster_role_stamped uid version d))
stamped_put kind.ClusterRoleBinding k uid version d = ap (put.ClusterRoleBinding k.name) (sym (cluster_role_binding_stamped uid version d))

-- the stored tree is granted as well
pub stamped_is_granted : (objects : PolicyObjects) (identity : Identity) (of : Option PolicyKind) (k : Key) (uid version : List ℕ) (d : Data)
    → IsGrantedAt objects identity of k (Some d) → IsGrantedAt objects identity of k (Some (stamped_tree uid version d))
stamped_is_granted objects identity None k uid version d h = tt
stamped_is_granted objects identity (Some of) k uid version d h = record { write = h.write; puts = h.puts ∙ stamped_put of k uid version d; granted = h.granted }

-- a deletion is granted
pub deletion_is_granted : (objects : PolicyObjects) (identity : Identity) (of : Option PolicyKind) (k : Key) → IsGrantedAt objects identity of k None
deletion_is_granted objects identity None k = tt
deletion_is_granted objects identity (Some of) k = tt
