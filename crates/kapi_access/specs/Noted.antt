-- The sets in which found ways are noted.
use Rattle.std.specs.Prelude.{◌≡◌, ℕ, List, Bool}
use Rattle.std.specs.BTreeSet.{BTreeSet, contains}
use Rattle.kapi_policy.specs.Objects.{place_cmp}
use Rattle.kapi_policy.specs.declared.change.NamespacedName.{NamespacedName}
use Rattle.kapi_access.specs.declared.grantee.Grantee.{Grantee}
use Rattle.kapi_access.specs.declared.grantee.Grantee.TheVariants as grantee
use Rattle.kapi_access.specs.Who.{FoundWays, is_told}

-- the sets of users and of groups have the grantee there
abbrev pub is_noted : BTreeSet NamespacedName → BTreeSet NamespacedName → List ℕ → Grantee → Bool
is_noted users groups there (grantee.User name) = contains place_cmp users (record { namespace = there; name = name })
is_noted users groups there (grantee.Group name) = contains place_cmp groups (record { namespace = there; name = name })

-- the sets have the grantees of what was found and no others
abbrev pub HaveThose : BTreeSet NamespacedName → BTreeSet NamespacedName → FoundWays → Type 0
HaveThose users groups f = (there : List ℕ) (to : Grantee) → is_noted users groups there to ≡ is_told f there to
