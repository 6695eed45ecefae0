-- What one write changes in a policy.
use Rattle.std.specs.Prelude.{◌≡◌, List, [], ◌∷◌}
use Rattle.kapi_policy.specs.Objects.{PolicyObjects, applied}
use Rattle.kapi_policy.specs.declared.change.PolicyChange.{PolicyChange}
use Rattle.kapi_policy.specs.declared.change.PolicyChange.TheVariants as change
use Rattle.kapi_policy.specs.declared.change.PolicyKey.{PolicyKey}

-- the policy after some changes, made in order
unfoldable pub after_changes : List PolicyChange → PolicyObjects → PolicyObjects
after_changes [] objects = objects
after_changes (c ∷ cs) objects = after_changes cs (applied c objects)

-- each change is a deletion
unfoldable pub AreDeletions : List PolicyChange → Type 0
AreDeletions [] = Unit {0}
AreDeletions (c ∷ cs) = ((k : PolicyKey) × (c ≡ change.Delete k)) × AreDeletions cs

-- the changes of one step: none, one, or deletions alone
abbrev pub IsStep : List PolicyChange → Type 0
IsStep [] = Unit {0}
IsStep (c ∷ []) = Unit {0}
IsStep (c ∷ d ∷ cs) = AreDeletions (c ∷ d ∷ cs)
