-- The groups of an identity (Kubernetes, 'Using RBAC Authorization').
use Rattle.std.specs.Prelude.{ℕ, List, Bool, codes}
use Rattle.std.specs.List.{list_any}
use Rattle.std.specs.Str.{bytes_eq}
use Rattle.kapi_model.specs.declared.identity.Identity.{Identity}

-- whether the group is one of the identity's
abbrev pub is_in : List ℕ → Identity → Bool
is_in group identity = list_any (λ g. bytes_eq g group) identity.groups

-- members of `system:masters` may do everything
abbrev pub is_master : Identity → Bool
is_master identity = is_in (codes "system:masters") identity
