-- What the answers to events report of the policy.
use Rattle.std.specs.Prelude.{List, [], ◌∷◌}
use Rattle.kapi_policy.specs.Objects.{PolicyObjects}
use Rattle.kapi_policy.specs.declared.change.PolicyChange.{PolicyChange}
use Rattle.kapi_policy.specs.Steps.{after_changes}
use Rattle.kapi_core.specs.declared.event.Answer.{Answer}
use Rattle.kapi_core.specs.declared.event.Answer.TheVariants as told

-- the changes of the policy that an answer reports
abbrev pub changes_told : Answer → List PolicyChange
changes_told (told.Sent output) = output.policy_changes
changes_told (told.Turned turned) = turned.policy_changes
changes_told _ = []

-- a policy after the changes that answers report, in order
unfoldable pub policy_told : List Answer → PolicyObjects → PolicyObjects
policy_told [] objects = objects
policy_told (a ∷ later) objects = policy_told later (after_changes (changes_told a) objects)
