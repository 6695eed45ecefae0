-- The changes of one step.
use Rattle.std.proofs.Common.{List, [], ◌∷◌, ◌-◌, length, take, drop, sym, subst}
use Rattle.std.proofs.lemmas.List.{take_rest}
use Rattle.kapi_policy.specs.declared.change.PolicyChange.{PolicyChange}
use Rattle.kapi_policy.specs.Steps.{AreDeletions, IsStep}

-- only deletions come behind the first change of a step
deletions_behind : (c : PolicyChange) (cs : List PolicyChange) → IsStep (c ∷ cs) → AreDeletions cs
unfolding AreDeletions
deletions_behind c [] h = tt
deletions_behind c (d ∷ cs) h = h.1

-- without the first change of a step deletions are left
first_dropped : (cs : List PolicyChange) → IsStep cs → AreDeletions (drop 1 cs)
unfolding AreDeletions
first_dropped [] h = tt
first_dropped (c ∷ cs) h = deletions_behind c cs h

pub behind_first : (cs : List PolicyChange) → IsStep cs → AreDeletions (take (length cs - 1) (drop 1 cs))
behind_first cs h = subst AreDeletions (sym (take_rest cs 1)) (first_dropped cs h)

-- deletions are one step
pub deletions_step : (cs : List PolicyChange) → AreDeletions cs → IsStep cs
deletions_step [] h = tt
deletions_step (c ∷ []) h = tt
deletions_step (c ∷ d ∷ cs) h = h
