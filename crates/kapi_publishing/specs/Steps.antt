-- The policy after steps of changes.
use Rattle.std.specs.Prelude.{List, [], ◌∷◌}
use Rattle.kapi_policy.specs.declared.change.PolicyChange.{PolicyChange}
use Rattle.kapi_policy.specs.Objects.{PolicyObjects}
use Rattle.kapi_policy.specs.Steps.{after_changes}

-- the step that is published of the policy changes of one write, if there are some
abbrev pub step_of : List PolicyChange → List (List PolicyChange)
step_of [] = []
step_of (c ∷ cs) = (c ∷ cs) ∷ []

-- the policy after steps, made in order
unfoldable pub after : PolicyObjects → List (List PolicyChange) → PolicyObjects
after objects [] = objects
after objects (step ∷ steps) = after (after_changes step objects) steps
