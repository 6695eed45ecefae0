-- Steps of policy changes, and how far a desk has published them.
use Rattle.std.specs.Prelude.{◌≡◌, ◌≤◌, List, [], ◌∷◌, ◌++◌, length, Option, Some, None}
use Rattle.std.specs.Option.{option_to_list}
use Rattle.kapi_policy.specs.declared.change.PolicyChange.{PolicyChange}
use Rattle.kapi_publishing.specs.Boards.{Board}

-- the steps that are yet to be published
abbrev pub unpublished : Board → Option (List PolicyChange) → List (List PolicyChange)
unpublished desk kept = desk.waiting ++ option_to_list kept

-- all steps, the published ones first
abbrev pub all_steps : Board → Option (List PolicyChange) → List (List PolicyChange)
all_steps desk kept = desk.list ++ unpublished desk kept

-- at most one step is yet to be published
abbrev pub IsPrompt : Board → Option (List PolicyChange) → Type 0
IsPrompt desk kept = length (unpublished desk kept) ≤ 1

-- steps were appended; if at most one step was unpublished before, at most one is after
pub record Publishes (old new : Board) (p q : Option (List PolicyChange)) (steps : List (List PolicyChange)) : Type 0 where
  pub opening : new.opening ≡ old.opening
  pub all : all_steps new q ≡ all_steps old p ++ steps
  pub prompt : IsPrompt old p → IsPrompt new q

-- a desk on which nothing waits has taken a step, or was left as it was and handed the step back
abbrev pub Takes : Board → Board → List PolicyChange → Option (List PolicyChange) → Type 0
Takes old new step None = (new.opening ≡ old.opening) × (new.list ++ new.waiting ≡ old.list ++ step ∷ []) × (length new.waiting ≤ 1)
Takes old new step (Some back) = (new ≡ old) × (back ≡ step)
