-- The policy that a desk has published, step by step.
use Rattle.std.proofs.Common.{◌≡◌, ◌==◌, true, true≢false, List, [], ◌∷◌, ◌++◌, length, refl, sym, ◌∙◌}
use Rattle.std.proofs.Math.Dec.{eqb-suc-zero}
use Rattle.kapi_policy.specs.Objects.{PolicyObjects}
use Rattle.kapi_policy.specs.Steps.{after_changes}
use Rattle.kapi_policy.specs.declared.change.PolicyChange.{PolicyChange}
use Rattle.kapi_publishing.specs.Steps.{after}
use Rattle.kapi_publishing.proofs.Lists.{after_more}

-- one step more is published
pub published_step : (opening next : PolicyObjects) (list more : List (List PolicyChange)) (step : List PolicyChange) → next ≡ opening → more ≡ list ++ step ∷ []
    → after next more ≡ after_changes step (after opening list)
unfolding after
published_step opening next list more step same is = (λ j. after (same j) (is j)) ∙ after_more opening list (step ∷ [])

-- a step of nothing
pub published_none : (objects : PolicyObjects) (step : List PolicyChange) → (length step == 0) ≡ true → objects ≡ after_changes step objects
unfolding after_changes
published_none objects [] is = refl
published_none objects (c ∷ cs) is = absurd (true≢false (sym is ∙ eqb-suc-zero (length cs)))
