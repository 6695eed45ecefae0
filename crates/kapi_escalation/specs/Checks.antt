-- The check against escalation (Kubernetes, 'Using RBAC Authorization', 'Privilege escalation prevention and
-- bootstrapping').
use Rattle.std.specs.Prelude.{◌≡◌, ◌==◌, Bool, true, false, not, ◌&&◌, ◌||◌, if◌then◌else◌, List, length, Option, Some, None, Result, Ok, Err}
use Rattle.std.specs.List.{flat_map, list_all, list_any}
use Rattle.kapi_text.specs.ResultIs.{◌>>=◌}
use Rattle.kapi_model.specs.declared.identity.Identity.{Identity}
use Rattle.kapi_model.specs.declared.policy_rule.PolicyRule.{PolicyRule}
use Rattle.kapi_rules.specs.Atoms.{atoms, implies}
use Rattle.kapi_rules.specs.Missing.{missing}
use Rattle.kapi_rules.specs.declared.atom.Atom.{Atom}
use Rattle.kapi_policy.specs.Decided.{held}
use Rattle.kapi_policy.specs.Objects.{PolicyObjects}
use Rattle.kapi_escalation.specs.Authority.{full_authority}
use Rattle.kapi_escalation.specs.Exempt.{is_exempt}
use Rattle.kapi_escalation.specs.Writes.{is_aggregated, keeps_role, scope, wanted}
use Rattle.kapi_escalation.specs.declared.refused.Refused.{Refused}
use Rattle.kapi_escalation.specs.declared.refused.Refused.TheVariants as refused
use Rattle.kapi_escalation.specs.declared.write.PolicyWrite.{PolicyWrite}
use Rattle.kapi_escalation.specs.declared.write.WrittenObject.{WrittenObject}

-- ---- who may write

-- no atom of the rules is missing
abbrev pub holds_all : List PolicyRule → List PolicyRule → Bool
holds_all own rules = length (missing own rules) == 0

-- the rules were found and no atom of them is missing
abbrev pub holds_found : List PolicyRule → Option (List PolicyRule) → Bool
holds_found own None = false
holds_found own (Some rules) = holds_all own rules

-- full authority is held if a cluster role takes its rules from others
abbrev pub holds_authority : List PolicyRule → WrittenObject → Bool
holds_authority own o = not (is_aggregated o) || holds_all own full_authority

-- the identity may make the write: it is exempt, or holds the rules, which exist, and the authority, in the write's
-- scope
unfoldable pub grant : PolicyObjects → Identity → PolicyWrite → Bool
grant objects identity w =
    is_exempt objects identity w
    || (holds_found (held objects identity (scope w.object)) (wanted objects w.object)
    && holds_authority (held objects identity (scope w.object)) w.object)

-- each atom of the rules is implied by one atom that is held
abbrev pub implies_each : List PolicyRule → List PolicyRule → Bool
implies_each own rules = list_all (λ a. list_any (λ h. implies h a) (flat_map atoms own)) (flat_map atoms rules)

-- the object stays within what the identity holds in its scope: its rules exist, and each of their atoms is implied by
-- one that is held; each atom of full authority is held too if a cluster role takes its rules from others
pub record IsWithin (objects : PolicyObjects) (identity : Identity) (o : WrittenObject) : Type 0 where
  pub rules : List PolicyRule
  pub found : wanted objects o ≡ Some rules
  pub implied : implies_each (held objects identity (scope o)) rules ≡ true
  pub authority : is_aggregated o ≡ true → implies_each (held objects identity (scope o)) full_authority ≡ true

-- ---- why a write is refused

-- a role reference that changed, a role that does not exist, the missing atoms of the rules, or of full authority
pub data Fault : Type 0 where
  role_ref_changed : Fault
  role_not_found : Fault
  lacks : List Atom → Fault
  lacks_authority : List Atom → Fault

-- the fault that a refusal reports; running out of memory is none
abbrev pub fault_of : Refused → Option Fault
fault_of (refused.Missing list) = Some (lacks list)
fault_of (refused.NeedsFullAuthority list) = Some (lacks_authority list)
fault_of refused.RoleNotFound = Some role_not_found
fault_of refused.RoleRefChanged = Some role_ref_changed
fault_of refused.Memory = None

-- nobody changes the role that a binding refers to
abbrev pub role_kept : WrittenObject → Result (Unit {0}) Fault
role_kept o = if keeps_role o then Ok tt else Err role_ref_changed

-- no atom of the rules is missing, or all that are
abbrev pub none_missing : List PolicyRule → List PolicyRule → Result (Unit {0}) Fault
none_missing own rules = if holds_all own rules then Ok tt else Err (lacks (missing own rules))

-- if a cluster role takes its rules from others no atom of full authority is missing, or all that are
abbrev pub authority_held : List PolicyRule → WrittenObject → Result (Unit {0}) Fault
authority_held own o = if holds_authority own o then Ok tt else Err (lacks_authority (missing own full_authority))

-- the rules are held, and full authority if it is needed
unfoldable pub all_held : List PolicyRule → WrittenObject → List PolicyRule → Result (Unit {0}) Fault
all_held own o rules = none_missing own rules >>= λ u. authority_held own o

-- the rules exist and are held, and full authority if it is needed
unfoldable pub rules_held : PolicyObjects → Identity → WrittenObject → Option (List PolicyRule) → Result (Unit {0}) Fault
rules_held objects identity o None = Err role_not_found
rules_held objects identity o (Some rules) = all_held (held objects identity (scope o)) o rules

-- the checks of a write, in their order
unfoldable pub checked : PolicyObjects → Identity → PolicyWrite → Result (Unit {0}) Fault
checked objects identity w =
    role_kept w.object
    >>= λ u. (if is_exempt objects identity w then Ok tt else rules_held objects identity w.object (wanted objects w.object))

-- the answer reports whether the check passes, unless it is out of memory
abbrev pub PassesIff : Result (Unit {0}) Refused → Bool → Type 0
PassesIff (Ok u) so = so ≡ true
PassesIff (Err refused.Memory) so = Unit {0}
PassesIff (Err (refused.Missing list)) so = so ≡ false
PassesIff (Err (refused.NeedsFullAuthority list)) so = so ≡ false
PassesIff (Err refused.RoleNotFound) so = so ≡ false
PassesIff (Err refused.RoleRefChanged) so = so ≡ false
